-- The signs of the vectors of a member of the basis, put row by row.
use Rattle.crn_tab.proofs.Prelude.{◌≡◌, ◌≢◌, ℕ, ◌+◌, ◌<◌, inl, inr, List, length, set, get_or, sym, ap, subst, ◌∙◌, arith, ℤ, pos, neg_ℤ, slice_index, replicate, get_or-replicate, length-replicate, get_or-set_same, get_or-set_other, Sign, Zero, Mat, entry, HasSign, IsIn, width, eq_or, IsColumnOfSign, Follows, basis_of, row_at, IsTableau}
use Rattle.crn_tab.proofs.Bases.{outside_slot}
use Rattle.crn_tab.proofs.Places.{isIn_or}
use Rattle.crn_tab.proofs.Scans.{column_follows}

-- the list has their signs at the coordinates whose slots are below e
abbrev pub AreColumnSigns : Mat → List ℕ → ℕ → Sign → ℕ → List Sign → Type 0
AreColumnSigns a at b sign e signs = (y : List ℤ) → IsColumnOfSign a (basis_of a.cols at) b sign y → (k : ℕ) → k < width a → slice_index at k < e → HasSign (get_or signs k Zero) (entry y k)

-- at the coordinates of the basis they are 0 but for the member's own
pub basic_signs : (a : Mat) (at order : List ℕ) (rows : List ℤ) (b count : ℕ) (sign : Sign) (signs : List Sign) → IsTableau a at order rows → count ≡ width a → b < count → signs ≡ replicate count Zero
    → AreColumnSigns a at b sign a.cols (set signs b sign)
basic_signs a at order rows b count sign signs t long lt is y named k k_lt slot =
    let b_in : b < length signs = omega (arith, lt, ap (length {A = Sign}) is, length-replicate count Zero) in
    elim (eq_or k b) as (λ _. HasSign (get_or (set signs b sign) k Zero) (entry y k)) [
      | inl e ↦ subst (λ (j : ℕ). HasSign (get_or (set signs b sign) j Zero) (entry y j)) (sym e)
          (subst (λ (s : Sign). HasSign s (entry y b)) (sym (get_or-set_same signs b sign Zero b_in)) named.1)
      | inr ne ↦
          let zero : entry y k ≡ pos 0 = elim (isIn_or k (basis_of a.cols at)) as (λ _. entry y k ≡ pos 0) [
            | inl member ↦ named.0.zero_on_rest k member ne
            | inr out ↦ absurd (omega (arith, slot, outside_slot a.cols (width a) at order k t.placed k_lt out))
          ] in
          let none : get_or (set signs b sign) k Zero ≡ Zero =
          get_or-set_other signs b k sign Zero ne ∙ ap (λ (l : List Sign). get_or l k Zero) is ∙ get_or-replicate count k Zero Zero (omega (arith, k_lt, long)) in
          subst (λ (s : Sign). HasSign s (entry y k)) (sym none) zero
    ]

-- one more row
pub next_sign : (a : Mat) (at order : List ℕ) (rows part : List ℤ) (b i c : ℕ) (sign other s : Sign) (signs : List Sign) → IsTableau a at order rows → IsIn b (basis_of a.cols at) → length signs ≡ width a → i < length a.rows
    → ((x : ℤ) → HasSign sign x → HasSign other (neg_ℤ x)) → part ≡ row_at (a.cols + 1) rows i → c ≡ slice_index order (a.cols + i)
    → ((y : ℤ) → Follows other (entry part (slice_index at b)) y → HasSign s y) → AreColumnSigns a at b sign (a.cols + i) signs → AreColumnSigns a at b sign (a.cols + (i + 1)) (set signs c s)
next_sign a at order rows part b i c sign other s signs t member long i_lt opposite is c_is right before y named k k_lt slot =
    let place = slice_index order (a.cols + i) in
    let c_in : c < length signs = omega (arith, long, c_is, t.placed.order_below (a.cols + i) (omega (arith, i_lt))) in
    elim (eq_or k c) as (λ _. HasSign (get_or (set signs c s) k Zero) (entry y k)) [
      | inl e ↦
          let follows : Follows other (entry part (slice_index at b)) (entry y c) =
          subst (λ (m : ℕ). Follows other (entry part (slice_index at b)) (entry y m)) (sym c_is)
          (subst (λ (r : List ℤ). Follows other (entry r (slice_index at b)) (entry y place)) (sym is) (column_follows a at order rows b i sign other y t member i_lt opposite named)) in
          subst (λ (j : ℕ). HasSign (get_or (set signs c s) j Zero) (entry y j)) (sym e)
          (subst (λ (r : Sign). HasSign r (entry y c)) (sym (get_or-set_same signs c s Zero c_in)) (right (entry y c) follows))
      | inr ne ↦
          let apart : slice_index at k ≢ a.cols + i = λ f. ne (sym (t.placed.there k k_lt) ∙ ap (slice_index order) f ∙ sym c_is) in
          subst (λ (r : Sign). HasSign r (entry y k)) (sym (get_or-set_other signs c k s Zero ne)) (before y named k k_lt (omega (arith, slot, apart)))
    ]
