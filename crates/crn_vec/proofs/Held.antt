-- Numbers that 128 bits hold.
use Rattle.crn_vec.proofs.Prelude.{◌≡◌, ℕ, ◌+◌, ◌*◌, ◌^◌, ◌<◌, ◌≤◌, arith, to_z, of_z, ℤ, ◌+ℤ◌, ◌*ℤ◌, unsigned_abs, w128, ints, to_z-of_z, fits_signed_from_abs, unsigned_abs-mul, mul-le-mul}

pub held : (x : ℤ) → unsigned_abs x < 2 ^ 127 → to_z w128 (of_z w128 x) ≡ x
held x h = to_z-of_z w128 x (fits_signed_from_abs w128 x (omega arith))

pub product_within : (x y : ℤ) (m n : ℕ) → unsigned_abs x ≤ m → unsigned_abs y ≤ n → unsigned_abs (x *ℤ y) ≤ m * n
product_within x y m n h k = omega (arith, unsigned_abs-mul x y, mul-le-mul h k)

pub sum_within : (x y : ℤ) (m n : ℕ) → unsigned_abs x ≤ m → unsigned_abs y ≤ n → unsigned_abs (x +ℤ y) ≤ m + n
sum_within x y m n h k = omega (arith, ints)
