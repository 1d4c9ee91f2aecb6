-- A basis and an index that name a wide vector have the form that an open answer requires.
use Rattle.crn_cert.proofs.Prelude.{◌≡◌, ℕ, suc, ◌+◌, ◌-◌, ◌<◌, ◌≤◌, inl, inr, List, length, map, sym, subst, ◌∙◌, arith, length-map, IsAscending, Mat, NamesWide, width, all_map, ascending_suc, AreFrom, IsBasisOf}

names_basis : (a : Mat) (index : ℕ) (basis : List ℕ) → NamesWide a index basis → IsBasisOf a.cols (length a.rows) index basis
names_basis a index basis h =
    let z = h.from_zero in
    let b = h.wide.1.basis_is in
    let most = a.cols + length a.rows in
    let inside : index - 1 < width a = elim h.wide.1.named [ inl column ↦ b.below (index - 1) column.member | inr row ↦ row.inside ] in
    let members : AreFrom a.cols 1 most (map suc z) = record {
      long = length-map z suc ∙ b.count;
      each = all_map (λ x. (1 ≤ x) × (x ≤ most)) suc z (λ k i. (omega arith, omega (arith, b.below k i)));
    } in
    record {
      coordinate = (h.counted, omega (arith, h.counted, inside));
      members = subst (AreFrom a.cols 1 most) (sym h.numbered) members;
      ascending = subst IsAscending (sym h.numbered) (ascending_suc z b.ascending);
    }

-- the same, by the numbers of columns and rows
pub wide_basis : (a : Mat) (columns rows index : ℕ) (basis : List ℕ) → a.cols ≡ columns → length a.rows ≡ rows → NamesWide a index basis → IsBasisOf columns rows index basis
wide_basis a columns rows index basis c r h = subst (λ (n : ℕ). IsBasisOf n rows index basis) c (subst (λ (m : ℕ). IsBasisOf a.cols m index basis) r (names_basis a index basis h))
