-- The difference of two products of short numbers, as 32 bits hold it.
use Rattle.crn_tab.proofs.Prelude.{◌≡◌, ◌*◌, ◌-◌, ◌^◌, ◌<◌, ◌≤◌, arith, to_z, of_z, ℤ, ◌-ℤ◌, ◌*ℤ◌, FitsSigned, unsigned_abs, w32, ints, to_z-of_z, fits_signed_from_abs, unsigned_abs-mul, mul-le-mul}

pub product_short : (a b : ℤ) → unsigned_abs a < 2 ^ 14 → unsigned_abs b < 2 ^ 14 → unsigned_abs (a *ℤ b) < 2 ^ 28
product_short a b p q =
    let a_le : unsigned_abs a ≤ 2 ^ 14 - 1 = omega arith in
    let b_le : unsigned_abs b ≤ 2 ^ 14 - 1 = omega arith in
    let both : unsigned_abs a * unsigned_abs b ≤ (2 ^ 14 - 1) * (2 ^ 14 - 1) = mul-le-mul a_le b_le in
    omega (arith, both, unsigned_abs-mul a b)

difference_short : (a b : ℤ) → unsigned_abs a < 2 ^ 28 → unsigned_abs b < 2 ^ 28 → unsigned_abs (a -ℤ b) < 2 ^ 30
difference_short a b p q = omega (arith, ints)

pub read_short : (x : ℤ) → unsigned_abs x < 2 ^ 30 → to_z w32 (of_z w32 x) ≡ x
read_short x h = to_z-of_z w32 x (fits_signed_from_abs w32 x (omega arith))

pub record ShortCrossed (p x q y : ℤ) : Type 0 where
  pub read_p : to_z w32 (of_z w32 p) ≡ p
  pub read_x : to_z w32 (of_z w32 x) ≡ x
  pub read_q : to_z w32 (of_z w32 q) ≡ q
  pub read_y : to_z w32 (of_z w32 y) ≡ y
  pub fits : FitsSigned w32 ((p *ℤ x) -ℤ (q *ℤ y))
  pub first : to_z w32 (of_z w32 (p *ℤ x)) ≡ p *ℤ x
  pub second : to_z w32 (of_z w32 (q *ℤ y)) ≡ q *ℤ y
  pub whole : to_z w32 (of_z w32 ((p *ℤ x) -ℤ (q *ℤ y))) ≡ (p *ℤ x) -ℤ (q *ℤ y)
  pub small : unsigned_abs ((p *ℤ x) -ℤ (q *ℤ y)) < 2 ^ 30

pub short_crossed : (p x q y : ℤ) → unsigned_abs p < 2 ^ 14 → unsigned_abs x < 2 ^ 14 → unsigned_abs q < 2 ^ 14 → unsigned_abs y < 2 ^ 14 → ShortCrossed p x q y
short_crossed p x q y hp hx hq hy =
    let f : unsigned_abs (p *ℤ x) < 2 ^ 28 = product_short p x hp hx in
    let g : unsigned_abs (q *ℤ y) < 2 ^ 28 = product_short q y hq hy in
    let h : unsigned_abs ((p *ℤ x) -ℤ (q *ℤ y)) < 2 ^ 30 = difference_short (p *ℤ x) (q *ℤ y) f g in
    record {
      read_p = read_short p (omega arith);
      read_x = read_short x (omega arith);
      read_q = read_short q (omega arith);
      read_y = read_short y (omega arith);
      fits = fits_signed_from_abs w32 ((p *ℤ x) -ℤ (q *ℤ y)) (omega arith);
      first = read_short (p *ℤ x) (omega arith);
      second = read_short (q *ℤ y) (omega arith);
      whole = read_short ((p *ℤ x) -ℤ (q *ℤ y)) h;
      small = h;
    }
