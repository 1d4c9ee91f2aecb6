-- A base with its duals and combinations, as a basis shows them after the rows have entered it, is a proof of the rank.
use Rattle.crn_rank.proofs.Prelude.{◌≡◌, ℕ, zero, suc, ◌+◌, ◌<◌, inl, inr, Bool, true, false, not, List, [], ◌∷◌, length, get_or, map, refl, sym, ap, subst, ◌∙◌, arith, ℤ, AllZip, AllByRecursion, get_or-map, length-map, Mat, IsIn, IsAscending, Net, IsRank, chosen, in_map, at_in, zip_long, above_in, RankProof, AllHold, AreFree, vector_of, vectors_of, outside, IsComb, dual_tests, comb_tests, hold_append, NamesRows, AreEntered, ArePlacesOfRows, EnteredRowsGiveTheRank, AreMembers, member_matrix, ProvesRank, is_inside, is_outside, rows_inside, rows_outside, IsDualOf, IsCombOf}
use Rattle.crn_rank.proofs.PickedRows.{at, picked_below, picked_has, picked_ascending, picked_count, ascending_distinct, outside_picked, inside_yes, inside_in}
use Rattle.crn_rank.proofs.DualTests.{AreInside, duals_hold, duals_free}
use Rattle.crn_rank.proofs.CombTests.{is_comb, combs_free, combs_hold, zip_map}

-- the members at ascending places ascend
at_up : (members : List ℕ) (i j : ℕ) → IsAscending members → i < j → j < length members → at members i < at members j
at_up [] i j h lt inside = absurd (omega (arith, inside))
at_up (x ∷ xs) i zero h lt inside = absurd (omega (arith, lt))
at_up (x ∷ xs) zero (suc j) h lt inside = above_in x xs h (get_or xs j 0) (at_in xs j 0 (omega (arith, inside)))
at_up (x ∷ xs) (suc i) (suc j) h lt inside = at_up xs i j (tail x xs h) (omega (arith, lt)) (omega (arith, inside))
  where
    tail : (x : ℕ) (xs : List ℕ) → IsAscending (x ∷ xs) → IsAscending xs
    tail x [] h = tt
    tail x (y ∷ ys) h = h.1

members_up : (members places : List ℕ) → IsAscending members → IsAscending places → ((k : ℕ) → IsIn k places → k < length members) → IsAscending (map (at members) places)
members_up members [] h g below = tt
members_up members (p ∷ []) h g below = tt
members_up members (p ∷ q ∷ ps) h g below = (at_up members p q h g.0 (below q (inr (inl refl))), members_up members (q ∷ ps) h g.1 (λ k i. below k (inr i)))

same_rows : (net : Net) (members places : List ℕ) → ((k : ℕ) → IsIn k places → k < length members) → vectors_of net (map (at members) places) ≡ chosen places (vectors_of net members)
same_rows net members [] below = refl
same_rows net members (p ∷ places) below =
    ap (λ (v : List ℤ). v ∷ vectors_of net (map (at members) places)) (sym (get_or-map (vector_of net) members p 0 [] (below p (inl refl))))
    ∙ ap (λ (t : List (List ℤ)). get_or (vectors_of net members) p [] ∷ t) (same_rows net members places (λ k i. below k (inr i)))

-- what a basis shows
pub record IsShown (a : Mat) (members basis : List ℕ) (proof : RankProof) : Type 0 where
  pub base : proof.base.list ≡ map (at members) (rows_inside a basis (length members))
  pub duals : AllZip (IsDualOf a basis) (rows_inside a basis (length members)) proof.duals
  pub combs : AllZip (IsCombOf a basis (length members)) (rows_outside a basis (length members)) proof.combs

proves : (net : Net) (members basis : List ℕ) (proof : RankProof) → AreMembers net members → NamesRows (member_matrix net members) basis → AreEntered (member_matrix net members) basis (length net.names)
    → EnteredRowsGiveTheRank → IsShown (member_matrix net members) members basis proof → ProvesRank net members proof
proves net members basis proof h t entered law shown =
    let a = member_matrix net members in
    let m = length members in
    let rows : length a.rows ≡ m = length-map members (vector_of net) in
    let p = is_inside a basis in
    let places = rows_inside a basis m in
    let others = rows_outside a basis m in
    let base = proof.base.list in
    let below : (k : ℕ) → IsIn k places → k < m = λ k i. (picked_below p m k i).0 in
    let inside : AreInside a basis places = λ k i. (omega (arith, rows, below k i), inside_in a basis k (picked_below p m k i).1) in
    let count : length base ≡ length places = ap length shown.base ∙ length-map places (at members) in
    let vs : vectors_of net base ≡ chosen places a.rows = ap (vectors_of net) shown.base ∙ same_rows net members places below in
    let are : ArePlacesOfRows a basis places = record {
      choice = record { ascending = picked_ascending p m; below = λ k i. (inside k i).0 };
      members = λ k lt. (λ i. (inside k i).1, λ i. picked_has p m k (omega (arith, lt, rows)) (inside_yes a basis k i));
    } in
    let combs : AllZip (λ k comb. IsComb (chosen places a.rows) (vector_of net (at members k)) comb) others proof.combs =
    zip_map (IsCombOf a basis m) (λ k comb. IsComb (chosen places a.rows) (vector_of net (at members k)) comb) others proof.combs
    (λ k comb i c.
    let f = picked_below (is_outside a basis) m k i in
    let miss : p k ≡ false = negated (p k) f.1 in
    let v : get_or a.rows k [] ≡ vector_of net (at members k) = get_or-map (vector_of net) members k 0 [] f.0 in
    let C : ℕ → Type 0 = λ n. IsCombOf a basis n k comb in
    let D : ℕ → Type 0 = λ n. IsComb (chosen (rows_inside a basis n) a.rows) (get_or a.rows k []) comb in
    subst (λ (x : List ℤ). IsComb (chosen places a.rows) x comb) v
    (subst D rows (is_comb a basis k comb t entered (omega (arith, f.0, rows)) miss (subst C (sym rows) c))))
    shown.combs in
    record {
      formed = record {
        long = refl;
        ascending = subst IsAscending (sym shown.base) (members_up members places h.ascending (picked_ascending p m) below);
        from = λ r i.
            let q = in_map (at members) places r (subst (λ (l : List ℕ). IsIn r l) shown.base i) in
            subst (λ (x : ℕ). IsIn x members) (sym q.2) (at_in members q.0 0 (below q.0 q.1));
        duals = record { long = zip_long (IsDualOf a basis) places proof.duals shown.duals ∙ sym count; each = duals_free a basis places proof.duals inside shown.duals };
        combs = record {
          long = omega (arith, zip_long (IsCombOf a basis m) others proof.combs shown.combs, picked_count p m, count);
          each = subst (λ (n : ℕ). AllByRecursion (AreFree (suc n)) proof.combs) (sym count) (combs_free a basis m others proof.combs shown.combs);
        };
      };
      holds = λ part.
          let D : List (List ℤ) → Type 0 = λ ws. AllHold (dual_tests ws (part + 1) 0 proof.duals) in
          let C : List (List ℤ) → Type 0 = λ ws. AllHold (comb_tests net ws (part + 1 + length base) (outside base members) proof.combs) in
          let rest : outside base members ≡ map (at members) others = ap (λ (b : List ℕ). outside b members) shown.base ∙ outside_picked p members h.ascending in
          hold_append (dual_tests (vectors_of net base) (part + 1) 0 proof.duals) (comb_tests net (vectors_of net base) (part + 1 + length base) (outside base members) proof.combs)
          (subst D (sym vs) (duals_hold a basis places proof.duals (part + 1) inside (ascending_distinct places (picked_ascending p m)) shown.duals))
          (subst C (sym vs) (subst (λ (rs : List ℕ). AllHold (comb_tests net (chosen places a.rows) (part + 1 + length base) rs proof.combs)) (sym rest)
          (combs_hold net (chosen places a.rows) members (part + 1 + length base) others proof.combs combs)));
      rank = subst (IsRank (vectors_of net members)) (sym count) (law a basis places t entered are);
    }
  where
    negated : (b : Bool) → not b ≡ true → b ≡ false
    negated true e = cc
    negated false e = refl

-- the same of a matrix that is that of the members
pub proves_at : (a : Mat) (net : Net) (members basis : List ℕ) (proof : RankProof) → a ≡ member_matrix net members → AreMembers net members → NamesRows a basis → AreEntered a basis a.cols
    → EnteredRowsGiveTheRank → IsShown a members basis proof → ProvesRank net members proof
proves_at a net members basis proof e h t entered law shown =
    let P : Mat → Type 0 = λ b. NamesRows b basis → AreEntered b basis b.cols → IsShown b members basis proof → ProvesRank net members proof in
    subst P (sym e) (λ t entered shown. proves net members basis proof h t entered law shown) t entered shown
