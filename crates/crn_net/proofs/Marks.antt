-- What a mark in the slot of a reaction says.
use Rattle.crn_net.proofs.Prelude.{◌≡◌, ℕ, ◌<◌, ◌≤◌, List, [], ◌∷◌, ◌++◌, length, get_or, set, sym, ap, subst, ◌∙◌, inl, inr, arith, cases_eq, get_or-set_other, get_or-set_same, IsIn, all_from, all_in, all_push, AreMarked, IsMarked, slot_of}

marked_set : (marks : List ℕ) (r s : ℕ × ℕ) (n : ℕ) → slot_of r < length marks → 1 ≤ n → IsMarked marks s → IsMarked (set marks (slot_of r) n) s
marked_set marks r s n lt some h =
    elim (cases_eq (slot_of s) (slot_of r)) [
      | inl e ↦
          let same = ap (λ (k : ℕ). get_or (set marks (slot_of r) n) k 0) e ∙ get_or-set_same marks (slot_of r) n 0 lt in
          subst (λ (k : ℕ). 1 ≤ k) (sym same) some
      | inr ne ↦ subst (λ (k : ℕ). 1 ≤ k) (sym (get_or-set_other marks (slot_of r) (slot_of s) n 0 ne)) h
    ]

-- one reaction more, with a mark
pub marked_put : (marks : List ℕ) (rs : List (ℕ × ℕ)) (r : ℕ × ℕ) (k n : ℕ) → k ≡ slot_of r → k < length marks → 1 ≤ n → AreMarked marks rs → AreMarked (set marks k n) (rs ++ r ∷ [])
marked_put marks rs r k n e lt some h =
    let inside = subst (λ (i : ℕ). i < length marks) e lt in
    let new = set marks (slot_of r) n in
    let old = all_from (IsMarked new) rs (λ s i. marked_set marks r s n inside some (all_in (IsMarked marks) rs s h i)) in
    let here = subst (λ (i : ℕ). 1 ≤ i) (sym (get_or-set_same marks (slot_of r) n 0 inside)) some in
    subst (λ (i : ℕ). AreMarked (set marks i n) (rs ++ r ∷ [])) (sym e) (all_push (IsMarked new) rs r old here)

-- a reaction without a mark is new
pub unmarked_new : (marks : List ℕ) (rs : List (ℕ × ℕ)) (r : ℕ × ℕ) (k : ℕ) → AreMarked marks rs → k ≡ slot_of r → get_or marks k 0 ≡ 0 → IsIn r rs → ⊥
unmarked_new marks rs r k h e none i =
    let marked : 1 ≤ get_or marks (slot_of r) 0 = all_in (IsMarked marks) rs r h i in
    let zero_there : get_or marks (slot_of r) 0 ≡ 0 = ap (λ (n : ℕ). get_or marks n 0) (sym e) ∙ none in
    absurd (omega (arith, marked, zero_there))
