-- The lines of a network's canonical text: no byte ends one, so that they are counted by the text.
use Rattle.crn_ctext.proofs.Prelude.{◌≡◌, ◌+◌, ◌==◌, ◌++◌, ◌||◌, ◌∙◌, ℕ, suc, Bool, true, false, if◌then◌else◌, List, [], ◌∷◌, length, map, get_or, eqb, refl, sym, ap, ap₂, subst, inl, inr, arith, codes, AllByRecursion, list_any, length-map, cases_Bool, Net, IsNetwork, IsPartialNetwork, IsVector, JoinsTwo, all_at, canonical, complex_text, line_text, no_lf, held, side_held, good_terms, IsLine, ended}
use Rattle.crn_ctext.proofs.DocumentsWritten.{network_lines, canonical_ended}

-- how many bytes of a text end a line
abbrev pub ends_in : List ℕ → ℕ
ends_in [] = 0
ends_in (b ∷ bs) = (if b == 10 then 1 else 0) + ends_in bs

ends_append : (xs ys : List ℕ) → ends_in (xs ++ ys) ≡ ends_in xs + ends_in ys
ends_append [] ys = omega arith
ends_append (x ∷ xs) ys = let more : ends_in (xs ++ ys) ≡ ends_in xs + ends_in ys = ends_append xs ys in omega (arith, more)

pub line_has_none : (bytes : List ℕ) → IsLine bytes → ends_in bytes ≡ 0
line_has_none [] p = refl
line_has_none (b ∷ bs) p =
    let here : (b == 10) ≡ false = p 0 0 (omega arith) in
    let more : ends_in bs ≡ 0 = line_has_none bs (λ k d lt. p (suc k) d (omega (arith, lt))) in
    ap₂ (λ (t : Bool) (n : ℕ). (if t then 1 else 0) + n) here more

any_has_none : (bytes : List ℕ) → list_any (λ b. eqb b 10) bytes ≡ false → ends_in bytes ≡ 0
any_has_none [] e = refl
any_has_none (b ∷ bs) e = elim (cases_Bool (eqb b 10)) [
  | inl ends ↦ absurd (let f : (true || list_any (λ b. eqb b 10) bs) ≡ false = subst (λ (t : Bool). (t || list_any (λ b. eqb b 10) bs) ≡ false) ends e in cc)
  | inr goes ↦
      let rest : list_any (λ b. eqb b 10) bs ≡ false = subst (λ (t : Bool). (t || list_any (λ b. eqb b 10) bs) ≡ false) goes e in
      ap₂ (λ (t : Bool) (n : ℕ). (if t then 1 else 0) + n) goes (any_has_none bs rest)
]

-- each line has one end
pub ends_ended : (ls : List (List ℕ)) → AllByRecursion (λ l. ends_in l ≡ 0) ls → ends_in (ended ls) ≡ length ls
ends_ended [] p = refl
ends_ended (l ∷ ls) p =
    let a : ends_in ((l ++ 10 ∷ []) ++ ended ls) ≡ ends_in (l ++ 10 ∷ []) + ends_in (ended ls) = ends_append (l ++ 10 ∷ []) (ended ls) in
    let b : ends_in (l ++ 10 ∷ []) ≡ ends_in l + 1 = ends_append l (10 ∷ []) in
    let c : ends_in (ended ls) ≡ length ls = ends_ended ls p.1 in
    omega (arith, a, b, c, p.0)

-- ---- of a network

-- a network's line, without its end
abbrev pub net_line : Net → ℕ × ℕ → List ℕ
net_line net r = complex_text net r.0 ++ codes " -> " ++ complex_text net r.1

pub line_is : (net : Net) (r : ℕ × ℕ) → net_line net r ≡ line_text (held net.names (get_or net.complexes r.0 [])) (held net.names (get_or net.complexes r.1 []))
line_is net r = ap₂ (λ (t u : List ℕ). (t ++ codes " -> ") ++ u) (side_held net.names (get_or net.complexes r.0 [])) (side_held net.names (get_or net.complexes r.1 []))

pub net_line_has_none : (net : Net) (r : ℕ × ℕ) → IsPartialNetwork net → JoinsTwo (length net.complexes) r → ends_in (net_line net r) ≡ 0
net_line_has_none net r h j =
    let v = all_at (IsVector (length net.names)) net.complexes r.0 [] h.vectors j.1 in
    let w = all_at (IsVector (length net.names)) net.complexes r.1 [] h.vectors j.2 in
    ap ends_in (line_is net r) ∙ any_has_none (line_text (held net.names (get_or net.complexes r.0 [])) (held net.names (get_or net.complexes r.1 [])))
    (no_lf (held net.names (get_or net.complexes r.0 [])) (held net.names (get_or net.complexes r.1 [])) (good_terms net.names (get_or net.complexes r.0 []) h.names_spelled v.1) (good_terms net.names (get_or net.complexes r.1 []) h.names_spelled w.1))

lines_have_none : (net : Net) (rs : List (ℕ × ℕ)) → IsPartialNetwork net → AllByRecursion (JoinsTwo (length net.complexes)) rs → AllByRecursion (λ l. ends_in l ≡ 0) (map (net_line net) rs)
lines_have_none net [] h a = tt
lines_have_none net (r ∷ rs) h a = (net_line_has_none net r h a.0, lines_have_none net rs h a.1)

-- lines whose text is the canonical one are as many as the reactions
pub lines_are_reactions : (net : Net) (lines : List (List ℕ)) → IsNetwork net → canonical net ≡ ended lines → AllByRecursion (λ l. ends_in l ≡ 0) lines → length lines ≡ length net.reactions
lines_are_reactions net lines n e p =
    let h = n.partial in
    sym (ends_ended lines p) ∙ ap ends_in (sym e ∙ canonical_ended net) ∙ ends_ended (network_lines net) (lines_have_none net net.reactions h h.apart) ∙ length-map net.reactions (net_line net)
