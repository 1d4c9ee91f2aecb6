-- A basis and a coordinate name one primitive vector, up to its sign.
use Rattle.crn_tab.proofs.Prelude.{◌≡◌, ◌≢◌, ℕ, ◌*◌, ◌≤◌, ◌⊎◌, inl, inr, List, sym, ap, ◌∙◌, arith, ℤ, pos, negsuc, ◌*ℤ◌, neg_ℤ, unsigned_abs, ints, unsigned_abs-mul, Mat, entry, AreOfLength, IsPrimitive, IsNamed, mul-neg}
use lib.IntN.{*ℤ_comm}
use Rattle.crn_tab.proofs.Signs.{same_sizes, one_row, some_own}
use Rattle.crn_tab.proofs.Columns.{cancel_left, one_column, some_own_column, not_zero}

same_or_negative : (x y : ℤ) → unsigned_abs x ≡ unsigned_abs y → (x ≡ y) ⊎ (x ≡ neg_ℤ y)
same_or_negative (pos n) (pos m) e = inl (ap pos e)
same_or_negative (pos n) (negsuc m) e = inr (omega (arith, ints, e))
same_or_negative (negsuc n) (pos m) e = inr (omega (arith, ints, e))
same_or_negative (negsuc n) (negsuc m) e = inl (omega (arith, ints, e))

-- primitive lists that are multiples of one another, place by place
up_to_sign : (v w : List ℤ) (k : ℕ) → IsPrimitive v → IsPrimitive w → 1 ≤ unsigned_abs (entry v k) → 1 ≤ unsigned_abs (entry w k)
    → ((j : ℕ) → entry w k *ℤ entry v j ≡ entry v k *ℤ entry w j) → ((j : ℕ) → entry v j ≡ entry w j) ⊎ ((j : ℕ) → entry v j ≡ neg_ℤ (entry w j))
up_to_sign v w k pv pw sv sw h =
    let abs : (j : ℕ) → unsigned_abs (entry w k) * unsigned_abs (entry v j) ≡ unsigned_abs (entry v k) * unsigned_abs (entry w j) = λ j.
    sym (unsigned_abs-mul (entry w k) (entry v j)) ∙ ap unsigned_abs (h j) ∙ unsigned_abs-mul (entry v k) (entry w j) in
    let size = same_sizes v w (unsigned_abs (entry w k)) (unsigned_abs (entry v k)) pv pw sw sv abs k in
    let ne : entry w k ≢ pos 0 = not_zero (entry w k) sw in
    elim (same_or_negative (entry v k) (entry w k) size) as (λ _. ((j : ℕ) → entry v j ≡ entry w j) ⊎ ((j : ℕ) → entry v j ≡ neg_ℤ (entry w j))) [
      | inl e ↦ inl (λ j. cancel_left (entry w k) (entry v j) (entry w j) ne (h j ∙ ap (λ (x : ℤ). x *ℤ entry w j) e))
      | inr e ↦ inr (λ j. cancel_left (entry w k) (entry v j) (neg_ℤ (entry w j)) ne
          (h j ∙ ap (λ (x : ℤ). x *ℤ entry w j) e ∙ *ℤ_comm (neg_ℤ (entry w k)) (entry w j) ∙ mul-neg (entry w j) (entry w k) ∙ ap neg_ℤ (*ℤ_comm (entry w j) (entry w k)) ∙ sym (mul-neg (entry w k) (entry w j))))
    ]

pub one_vector : (a : Mat) (basis : List ℕ) (k : ℕ) (v w : List ℤ) → AreOfLength a.cols a.rows → IsNamed a basis k v → IsNamed a basis k w
    → ((j : ℕ) → entry v j ≡ entry w j) ⊎ ((j : ℕ) → entry v j ≡ neg_ℤ (entry w j))
one_vector a basis k v w wide nv nw = elim nv.named as (λ _. ((j : ℕ) → entry v j ≡ entry w j) ⊎ ((j : ℕ) → entry v j ≡ neg_ℤ (entry w j))) [
  | inl cv ↦ elim nw.named as (λ _. ((j : ℕ) → entry v j ≡ entry w j) ⊎ ((j : ℕ) → entry v j ≡ neg_ℤ (entry w j))) [
    | inl cw ↦ up_to_sign v w k nv.primitive nw.primitive (some_own_column a basis k v nv.basis_is cv nv.primitive) (some_own_column a basis k w nv.basis_is cw nw.primitive) (one_column a basis k v w nv.basis_is cv cw)
    | inr rw_is ↦ absurd (rw_is.outside cv.member)
  ]
  | inr rv ↦ elim nw.named as (λ _. ((j : ℕ) → entry v j ≡ entry w j) ⊎ ((j : ℕ) → entry v j ≡ neg_ℤ (entry w j))) [
    | inl cw ↦ absurd (rv.outside cw.member)
    | inr rw_is ↦ up_to_sign v w k nv.primitive nw.primitive (some_own a basis k v wide nv.basis_is rv nv.primitive) (some_own a basis k w wide nv.basis_is rw_is nw.primitive) (one_row a basis k v w wide nv.basis_is rv rw_is)
  ]
]
