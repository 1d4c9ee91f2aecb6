-- Each text spells a network or has a first fault.
use Rattle.crn_text.proofs.Prelude.{◌≡◌, ℕ, zero, suc, ◌+◌, ◌<◌, ◌≤◌, Bool, true, false, if◌then◌else◌, List, [], ◌∷◌, ◌++◌, Option, Some, None, length, take, get_or, refl, sym, ap, subst, ◌∙◌, append_assoc, add-one, inl, inr, arith, nat_lt, AllByRecursion, cases_lt, ltb-false, append-nil, take_more, Net, Statement, MAX_SPECIES, MAX_COMPLEXES, MAX_REACTIONS, MAX_TEXT, flat_map_push, option_or, Grown, IsSelf, no_net, names_with, complexes_with, reactions_with, Grown-none, Grown-more, Grown-network, IsSaid, may_grow, lines, line_statements, all_statements, is_self, names_of, complexes_of, reactions_of, statement_fault, statements_fault, own_fault, line_fault, or_else, Spells, Fault, fault_on, AreFaultless, TextCode, TextTooLong, NoReaction}
use Rattle.std.proofs.Common.{◌⊎◌}
use Rattle.std.proofs.lemmas.List.{take_all}
use Rattle.crn_text.proofs.LinesRead.{none_own, text_ok, text_without}
use Rattle.crn_text.proofs.Sayings.{line_said}
use Rattle.crn_text.proofs.Statements.{names_all, complexes_all, reactions_all, self_tested}

-- ---- one statement after another

-- what a statement without a fault keeps to
record IsWithin (before : List Statement) (s : Statement) : Type 0 where
  apart : is_self s ≡ false
  species : length (names_of (before ++ s ∷ [])) ≤ MAX_SPECIES
  complexes : length (complexes_of (before ++ s ∷ [])) ≤ MAX_COMPLEXES
  reactions : length (reactions_of (before ++ s ∷ [])) ≤ MAX_REACTIONS

-- tests that come to no fault: none of them fails
none_fails : (a b c d : Bool) (x y z w : TextCode) → (if a then Some x else (if b then Some y else (if c then Some z else (if d then Some w else None)))) ≡ None → (a ≡ false) × (b ≡ false) × (c ≡ false) × (d ≡ false)
none_fails true b c d x y z w h = absurd cc
none_fails false true c d x y z w h = absurd cc
none_fails false false true d x y z w h = absurd cc
none_fails false false false true x y z w h = absurd cc
none_fails false false false false x y z w h = (refl, refl, refl, refl)

within : (before : List Statement) (s : Statement) → statement_fault before s ≡ None → IsWithin before s
unfolding statement_fault
within before s f =
    let all : List Statement = before ++ s ∷ [] in
    let fine = none_fails (is_self s) (nat_lt MAX_SPECIES (length (names_of all))) (nat_lt MAX_COMPLEXES (length (complexes_of all))) (nat_lt MAX_REACTIONS (length (reactions_of all))) _ _ _ _ f in
    record { apart = fine.0; species = ltb-false _ _ fine.1; complexes = ltb-false _ _ fine.2; reactions = ltb-false _ _ fine.3 }

-- a network that these statements make
abbrev Made : List Statement → Type 0
Made before = (net : Net) × Grown before net

next_made : (before : List Statement) (s : Statement) → Made before → IsSaid s → statement_fault before s ≡ None → Made (before ++ s ∷ [])
next_made before s m said f =
    let w = within before s f in
    let old = m.0 in
    let g = m.1 in
    let apart : IsSelf old s → ⊥ = λ h. let same = self_tested old s h in let differ = w.apart in cc in
    let species : length (names_with old s) ≤ MAX_SPECIES = let e = ap length (names_all before s old g) in omega (arith, e, w.species) in
    let complexes : length (complexes_with old s) ≤ MAX_COMPLEXES = let e = ap length (complexes_all before s old g) in omega (arith, e, w.complexes) in
    let reactions : length (reactions_with old s) ≤ MAX_REACTIONS = let e = ap length (reactions_all before s old g) in omega (arith, e, w.reactions) in
    let new = may_grow old s (Grown-network before old g) said apart species complexes reactions in
    (new.0, Grown-more before s old new.0 g new.1)

none_more : (own more : Option TextCode) → or_else own more ≡ None → more ≡ None
none_more None more h = h
none_more (Some code) more h = absurd cc

more_made : (before ss : List Statement) → Made before → AllByRecursion IsSaid ss → statements_fault before ss ≡ None → Made (before ++ ss)
more_made before [] m said f = subst Made (sym (append-nil before)) m
more_made before (s ∷ ss) m said f =
    let one = next_made before s m said.0 (none_own (statement_fault before s) (statements_fault (before ++ s ∷ []) ss) f) in
    subst Made (append_assoc before (s ∷ []) ss) (more_made (before ++ s ∷ []) ss one said.1 (none_more (statement_fault before s) (statements_fault (before ++ s ∷ []) ss) f))

-- ---- one line after another

line_made : (before : List Statement) (line : List ℕ) → Made before → line_fault before line ≡ None → Made (before ++ line_statements line)
line_made before line m f =
    let own = none_own (own_fault line) (statements_fault before (line_statements line)) f in
    more_made before (line_statements line) m (line_said line own) (none_more (own_fault line) (statements_fault before (line_statements line)) f)

made_upto : (ls : List (List ℕ)) (n : ℕ) → n ≤ length ls → AreFaultless ls n → Made (all_statements (take n ls))
made_upto ls zero le h = (no_net, Grown-none)
made_upto ls (suc n) le h =
    let more : take (suc n) ls ≡ take n ls ++ get_or ls n [] ∷ [] = ap (λ (k : ℕ). take k ls) (sym (add-one n)) ∙ take_more ls n [] (omega arith) in
    subst Made (sym (ap all_statements more ∙ flat_map_push line_statements (take n ls) (get_or ls n [])))
    (line_made (all_statements (take n ls)) (get_or ls n []) (made_upto ls n (omega arith) (λ k lt. h k (omega arith))) (h n (omega arith)))

-- the first line with a fault
record FirstLine (ls : List (List ℕ)) (n : ℕ) : Type 0 where
  at : ℕ
  code : TextCode
  below : at < n
  earlier : AreFaultless ls at
  fault : fault_on ls at ≡ Some code

first_line : (ls : List (List ℕ)) (n : ℕ) → AreFaultless ls n ⊎ FirstLine ls n
first_line ls zero = inl (λ k lt. absurd (omega (arith, lt)))
first_line ls (suc n) = elim (first_line ls n) [
  | inr found ↦ inr (record { at = found.at; code = found.code; below = let lt = found.below in omega arith; earlier = found.earlier; fault = found.fault })
  | inl none ↦ elim (option_or (fault_on ls n)) [
    | inl fine ↦ inl (λ k lt. elim (cases_lt k n) [ inl less ↦ none k less | inr most ↦ let is : n ≡ k = omega arith in subst (λ (m : ℕ). fault_on ls m ≡ None) is fine ])
    | inr found ↦ inr (record { at = n; code = found.0; below = omega arith; earlier = none; fault = found.1 })
  ]
]

-- ---- the whole text

abbrev IsJudged : List ℕ → Type 0
IsJudged text = ((net : Net) × Spells text net) ⊎ ((line : ℕ) × (code : TextCode) × Fault text line code)

judged_net : (text : List ℕ) → length text ≤ MAX_TEXT → AreFaultless (lines text) (length (lines text)) → (net : Net) → Grown (all_statements (lines text)) net → (reactions : List (ℕ × ℕ)) → net.reactions ≡ reactions → IsJudged text
judged_net text short sound net g [] e = inr (0, NoReaction, inr (inr (text_without text net short (sound, g) e)))
judged_net text short sound net g (r ∷ rs) e = inl (net, text_ok text net net short (sound, g) (refl, record { partial = Grown-network (all_statements (lines text)) net g; some = let l = ap length e in omega (arith, l) }))

pub judged : (text : List ℕ) → IsJudged text
judged text = elim (cases_lt MAX_TEXT (length text)) [
  | inl long ↦ inr (0, TextTooLong, inl (record { named = refl; whole = refl; long = long }))
  | inr short ↦ elim (first_line (lines text) (length (lines text))) [
    | inl sound ↦
        let m : Made (all_statements (lines text)) = subst (λ (ls : List (List ℕ)). Made (all_statements ls)) (take_all (length (lines text)) (lines text) (omega arith)) (made_upto (lines text) (length (lines text)) (omega arith) sound) in
        judged_net text short sound m.0 m.1 m.0.reactions refl
    | inr found ↦ inr (found.at + 1, found.code, inr (inl (record { before = found.at; counted = refl; short = short; there = found.below; earlier = found.earlier; fault = found.fault })))
  ]
]
