-- The product of a number of 64 bits and a small one, as 128 bits hold it.
use Rattle.crn_tab.proofs.Prelude.{◌≡◌, ◌≤◌, ◌<◌, ◌^◌, ℕ, refl, sym, ap, subst, ◌∙◌, arith, to_z, of_z, ℤ, ◌*ℤ◌, FitsSigned, unsigned_abs, ◌∣◌, w64, w128, ints, to_z-of_z, fits_signed_from_abs, fits_signed_mul, unsigned_abs-mul, dvd-mul_left, WIDE_ENTRY}

abs_le : (x : ℤ) → FitsSigned w64 x → unsigned_abs x ≤ 2 ^ 63
abs_le x f = omega (arith, ints, f)

-- cast to 128, of any number of 64 bits
pub any_widened : (x : ℤ) → FitsSigned w64 x → to_z w128 (of_z w128 (to_z w64 (of_z w64 x))) ≡ x
any_widened x f =
    let le = abs_le x f in
    let g : FitsSigned w128 x = fits_signed_from_abs w128 x (omega (arith, le)) in
    rw (to_z-of_z w64 x f, to_z-of_z w128 x g) refl

pub product_fits : (y by : ℤ) → FitsSigned w64 y → unsigned_abs by < WIDE_ENTRY → FitsSigned w128 (y *ℤ by)
product_fits y by f small = fits_signed_mul w128 y by (2 ^ 63) (2 ^ 62) (abs_le y f) (omega (arith, small)) (omega arith)

-- a factor divides its product
pub times_divides : (z t u : ℤ) → z *ℤ t ≡ u → unsigned_abs t ∣ unsigned_abs u
times_divides z t u e =
    let D : ℕ → Type 0 = λ n. unsigned_abs t ∣ n in
    subst D (sym (unsigned_abs-mul z t) ∙ ap unsigned_abs e) (dvd-mul_left (unsigned_abs t) (unsigned_abs z))
