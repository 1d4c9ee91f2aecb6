-- Whether a coordinate is in the basis, by its slot.
use Rattle.crn_tab.proofs.Prelude.{◌≡◌, ℕ, ◌<◌, ◌≤◌, List, length, ap, arith, nat_lt, slice_index, IsTrue, ◌↔◌, IsIn, IsIdentity, basis_of}
use Rattle.crn_tab.proofs.Places.{lt_true, below_from, in_basis, basis_only}

pub slot_below : (n : ℕ) (at : List ℕ) (k : ℕ) → IsIn k (basis_of n at) → slice_index at k < n
slot_below n at k h =
    let m = basis_only 0 n at k h in
    let same : m.place ≡ k = omega (arith, m.is) in
    omega (arith, m.basic, ap (slice_index at) same)

pub basic_test : (n : ℕ) (at : List ℕ) (k : ℕ) → k < length at → IsTrue (nat_lt (slice_index at k) n) ↔ IsIn k (basis_of n at)
basic_test n at k lt = (λ h. in_basis n at k lt (below_from (slice_index at k) n h), λ h. lt_true (slice_index at k) n (slot_below n at k h))

-- at first the basis is the columns
pub first_basis : (n count : ℕ) (at : List ℕ) → IsIdentity count at → n ≤ count → (k : ℕ) → IsIn k (basis_of n at) ↔ (k < n)
first_basis n count at id le k = (
  λ h.
      let m = basis_only 0 n at k h in
      let same : m.place ≡ k = omega (arith, m.is) in
      omega (arith, slot_below n at k h, m.inside, same, id.long, id.is k (omega (arith, m.inside, same, id.long))),
  λ lt. in_basis n at k (omega (arith, id.long)) (omega (arith, id.is k (omega arith))),
)
