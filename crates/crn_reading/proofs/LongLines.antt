-- No canonical text has a line that is longer than a line of a network can be.
use Rattle.crn_reading.proofs.Prelude.{◌≡◌, ◌+◌, ◌-◌, ◌==◌, ◌<◌, ◌≤◌, ◌++◌, ◌∙◌, ℕ, false, inl, inr, List, [], ◌∷◌, length, drop, get_or, sym, ap, subst, append_assoc, arith, codes, AllByRecursion, flat_map, get_or-append_seam, drop-append_seam, false≢true, length-append, drop-append-le, get_or_append_left, get_or-append_right, Net, IsNetwork, IsPartialNetwork, IsVector, JoinsTwo, all_at, lt_or, IsLine, canonical, complex_text, reaction_line, held, side_text, line_text, side_held, good_terms, side_length, held_length, ended, HasLongLine, IsLongLine, NETWORK_LINE}

-- the line of a reaction without its LF
abbrev line_of : Net → ℕ × ℕ → List ℕ
line_of net r = complex_text net r.0 ++ codes " -> " ++ complex_text net r.1

line_is : (net : Net) (r : ℕ × ℕ) → line_of net r ≡ line_text (held net.names (get_or net.complexes r.0 [])) (held net.names (get_or net.complexes r.1 []))
line_is net r =
    ap (λ (t : List ℕ). (t ++ codes " -> ") ++ complex_text net r.1) (side_held net.names (get_or net.complexes r.0 []))
    ∙ ap (λ (u : List ℕ). (side_text (held net.names (get_or net.complexes r.0 [])) ++ codes " -> ") ++ u) (side_held net.names (get_or net.complexes r.1 []))

line_length : (net : Net) (r : ℕ × ℕ) → IsPartialNetwork net → JoinsTwo (length net.complexes) r → length (line_of net r) ≤ NETWORK_LINE
line_length net r h j =
    let v = all_at (IsVector (length net.names)) net.complexes r.0 [] h.vectors j.1 in
    let w = all_at (IsVector (length net.names)) net.complexes r.1 [] h.vectors j.2 in
    let x = held net.names (get_or net.complexes r.0 []) in
    let y = held net.names (get_or net.complexes r.1 []) in
    let a = side_length x (good_terms net.names (get_or net.complexes r.0 []) h.names_spelled v.1) in
    let b = side_length y (good_terms net.names (get_or net.complexes r.1 []) h.names_spelled w.1) in
    let text = ap length (line_is net r) in
    let few = h.species_limit in
    omega (arith, a, b, few, text, held_length net.names (get_or net.complexes r.0 []), held_length net.names (get_or net.complexes r.1 []), length-append (side_text x ++ codes " -> ") (side_text y), length-append (side_text x) (codes " -> "))

-- a text of lines up to this length has no longer stretch without LF
no_stretch : (net : Net) (rs : List (ℕ × ℕ)) (a b c : List ℕ) → IsPartialNetwork net → AllByRecursion (JoinsTwo (length net.complexes)) rs → flat_map (reaction_line net) rs ≡ a ++ (b ++ c) → IsLine b → NETWORK_LINE < length b → ⊥
no_stretch net [] a b c h apart e is long = let n = ap length e in omega (arith, n, long, length-append a (b ++ c), length-append b c)
no_stretch net (r ∷ rs) a b c h apart e is long =
    let l = line_of net r in
    let more = flat_map (reaction_line net) rs in
    let short : length l ≤ NETWORK_LINE = line_length net r h apart.0 in
    let text : l ++ 10 ∷ more ≡ a ++ (b ++ c) = sym (append_assoc l (10 ∷ []) more) ∙ e in
    elim (lt_or (length l) (length a)) [
      | inl before ↦
          let skip = length l + 1 in
          let rest : more ≡ drop skip a ++ (b ++ c) =
          sym (drop-append_seam (l ++ 10 ∷ []) more) ∙ ap (λ (n : ℕ). drop n ((l ++ 10 ∷ []) ++ more)) (length-append l (10 ∷ []))
          ∙ ap (drop skip) e ∙ drop-append-le skip a (b ++ c) (omega (arith, before)) in
          no_stretch net rs (drop skip a) b c h apart.1 rest is long
      | inr within ↦
          let k = length l - length a in
          let inside : k < length b = omega (arith, within, short, long) in
          let byte : 10 ≡ get_or b k 0 =
          sym (get_or-append_seam l 10 more 0) ∙ ap (λ (t : List ℕ). get_or t (length l) 0) text
          ∙ get_or-append_right a (b ++ c) (length a) (length l) 0 (omega arith) within ∙ get_or_append_left b c 0 k inside in
          false≢true (sym (subst (λ (n : ℕ). (n == 10) ≡ false) (sym byte) (is k 0 inside)))
    ]

-- where a line is among the lines of a text
line_among : (lines : List (List ℕ)) → HasLongLine lines → (a : List ℕ) × (b : List ℕ) × (c : List ℕ) × (ended lines ≡ a ++ (b ++ c)) × IsLongLine b
line_among [] none = absurd none
line_among (l ∷ ls) (inl long) = ([], l, 10 ∷ ended ls, append_assoc l (10 ∷ []) (ended ls), long)
line_among (l ∷ ls) (inr later) =
    let f = line_among ls later in
    ((l ++ 10 ∷ []) ++ f.0, f.1, f.2, ap (λ (t : List ℕ). (l ++ 10 ∷ []) ++ t) f.3 ∙ sym (append_assoc (l ++ 10 ∷ []) f.0 (f.1 ++ f.2)), f.4)

pub no_long_line : (net : Net) (lines : List (List ℕ)) → IsNetwork net → canonical net ≡ ended lines → HasLongLine lines → ⊥
no_long_line net lines h e long =
    let f = line_among lines long in
    no_stretch net net.reactions f.0 f.1 f.2 h.partial h.partial.apart (e ∙ f.3) f.4.0 f.4.1
