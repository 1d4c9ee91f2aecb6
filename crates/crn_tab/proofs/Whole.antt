-- What a tableau keeps, if other lists hold the same.
use Rattle.crn_tab.proofs.Prelude.{◌≡◌, ◌+◌, ℕ, List, sym, subst, ℤ, Mat, IsTableau, IsWhole}

pub whole : (a a' : Mat) (at at' order order' : List ℕ) (rows rows' : List ℤ) (scratch : ℕ) → a' ≡ a → at' ≡ at → order' ≡ order → rows' ≡ rows
    → IsTableau a at order rows → scratch ≡ a.cols + 1 → IsWhole a' at' order' rows' scratch
whole a a' at at' order order' rows rows' scratch ea et eo er t fits =
    let A : Mat → Type 0 = λ x. IsWhole x at' order' rows' scratch in
    let B : List ℕ → Type 0 = λ x. IsWhole a x order' rows' scratch in
    let C : List ℕ → Type 0 = λ x. IsWhole a at x rows' scratch in
    let D : List ℤ → Type 0 = λ x. IsWhole a at order x scratch in
    subst A (sym ea) (subst B (sym et) (subst C (sym eo) (subst D (sym er) (record { tableau = t; scratch_fits = fits }))))
