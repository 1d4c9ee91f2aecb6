-- The difference of two products of 64 bits, as 128 bits hold it.
use Rattle.crn_tab.proofs.Prelude.{◌≡◌, ◌*◌, ◌-◌, ◌^◌, ◌<◌, ◌≤◌, refl, arith, to_z, of_z, ℤ, ◌-ℤ◌, ◌*ℤ◌, FitsSigned, unsigned_abs, w64, w128, ints, to_z-of_z, fits_signed_from_abs, unsigned_abs-mul, mul-le-mul, WIDE_ENTRY}

-- a number of 64 bits
pub read : (x : ℤ) → unsigned_abs x < WIDE_ENTRY → to_z w64 (of_z w64 x) ≡ x
read x h = to_z-of_z w64 x (fits_signed_from_abs w64 x (omega arith))

-- cast to 128
pub widened : (x : ℤ) → unsigned_abs x < WIDE_ENTRY → to_z w128 (of_z w128 (to_z w64 (of_z w64 x))) ≡ x
widened x h =
    let f : FitsSigned w64 x = fits_signed_from_abs w64 x (omega arith) in
    let g : FitsSigned w128 x = fits_signed_from_abs w128 x (omega arith) in
    rw (to_z-of_z w64 x f, to_z-of_z w128 x g) refl

-- cast from 128
pub narrowed : (x : ℤ) → unsigned_abs x < WIDE_ENTRY → to_z w64 (of_z w64 (to_z w128 (of_z w128 x))) ≡ x
narrowed x h =
    let f : FitsSigned w64 x = fits_signed_from_abs w64 x (omega arith) in
    let g : FitsSigned w128 x = fits_signed_from_abs w128 x (omega arith) in
    rw (to_z-of_z w128 x g, to_z-of_z w64 x f) refl

pub product_small : (a b : ℤ) → unsigned_abs a < WIDE_ENTRY → unsigned_abs b < WIDE_ENTRY → unsigned_abs (a *ℤ b) < 2 ^ 124
product_small a b p q =
    let a_le : unsigned_abs a ≤ WIDE_ENTRY - 1 = omega arith in
    let b_le : unsigned_abs b ≤ WIDE_ENTRY - 1 = omega arith in
    let both : unsigned_abs a * unsigned_abs b ≤ (WIDE_ENTRY - 1) * (WIDE_ENTRY - 1) = mul-le-mul a_le b_le in
    omega (arith, both, unsigned_abs-mul a b)

pub difference_small : (a b : ℤ) → unsigned_abs a < 2 ^ 124 → unsigned_abs b < 2 ^ 124 → unsigned_abs (a -ℤ b) < 2 ^ 125
difference_small a b p q = omega (arith, ints)

pub record Crossed (p x q y : ℤ) : Type 0 where
  pub fits : FitsSigned w128 ((p *ℤ x) -ℤ (q *ℤ y))
  pub first : to_z w128 (of_z w128 (p *ℤ x)) ≡ p *ℤ x
  pub second : to_z w128 (of_z w128 (q *ℤ y)) ≡ q *ℤ y
  pub whole : to_z w128 (of_z w128 ((p *ℤ x) -ℤ (q *ℤ y))) ≡ (p *ℤ x) -ℤ (q *ℤ y)
  pub small : unsigned_abs ((p *ℤ x) -ℤ (q *ℤ y)) < 2 ^ 125

pub crossed : (p x q y : ℤ) → unsigned_abs p < WIDE_ENTRY → unsigned_abs x < WIDE_ENTRY → unsigned_abs q < WIDE_ENTRY → unsigned_abs y < WIDE_ENTRY → Crossed p x q y
crossed p x q y hp hx hq hy =
    let f : unsigned_abs (p *ℤ x) < 2 ^ 124 = product_small p x hp hx in
    let g : unsigned_abs (q *ℤ y) < 2 ^ 124 = product_small q y hq hy in
    let h : unsigned_abs ((p *ℤ x) -ℤ (q *ℤ y)) < 2 ^ 125 = difference_small (p *ℤ x) (q *ℤ y) f g in
    let fits : FitsSigned w128 ((p *ℤ x) -ℤ (q *ℤ y)) = fits_signed_from_abs w128 ((p *ℤ x) -ℤ (q *ℤ y)) (omega arith) in
    record {
      fits = fits;
      first = to_z-of_z w128 (p *ℤ x) (fits_signed_from_abs w128 (p *ℤ x) (omega arith));
      second = to_z-of_z w128 (q *ℤ y) (fits_signed_from_abs w128 (q *ℤ y) (omega arith));
      whole = to_z-of_z w128 ((p *ℤ x) -ℤ (q *ℤ y)) fits;
      small = h;
    }
