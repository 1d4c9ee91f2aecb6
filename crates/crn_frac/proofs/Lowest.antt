-- Lowest terms: num = n g and den = d g, with g the greatest common divisor.
use Rattle.crn_frac.proofs.Prelude.{◌≡◌, ℕ, ◌*◌, ◌≤◌, sym, ap, subst, ◌∙◌, arith, ℤ, pos, ◌-ℤ◌, neg_ℤ, ◌*ℤ◌, unsigned_abs, IsGcd, ◌∣◌, ints, unsigned_abs-mul, one-dvd, one-mul, le-mul_of_pos_right, mul-dvd-mul_right, dvd_of_mul-dvd-mul_right}
use lib.IntN.{*ℤ_comm}
use Rattle.crn_frac.proofs.Whole.{assoc, mul-neg}

pub lowest_value : (num den g n d : ℤ) → n *ℤ g ≡ num → d *ℤ g ≡ den → n *ℤ den ≡ num *ℤ d
lowest_value num den g n d e f =
    let a : n *ℤ den ≡ n *ℤ (d *ℤ g) = ap (λ (t : ℤ). n *ℤ t) (sym f) in
    let b : num *ℤ d ≡ (n *ℤ g) *ℤ d = ap (λ (t : ℤ). t *ℤ d) (sym e) in
    let h : n *ℤ (g *ℤ d) ≡ n *ℤ (d *ℤ g) = ap (λ (t : ℤ). n *ℤ t) (*ℤ_comm g d) in
    omega (arith, ints, a, b, h, assoc n g d)

pub lowest_value_neg : (num den n d : ℤ) → n *ℤ den ≡ num *ℤ d → neg_ℤ n *ℤ den ≡ num *ℤ neg_ℤ d
lowest_value_neg num den n d h =
    omega (arith, ints, h, *ℤ_comm (neg_ℤ n) den, mul-neg den n, mul-neg num d, *ℤ_comm n den)

pub minus : (n : ℤ) → pos 0 -ℤ n ≡ neg_ℤ n
minus n = omega (arith, ints)

pub abs_minus : (n : ℤ) → unsigned_abs (neg_ℤ n) ≡ unsigned_abs n
abs_minus n = omega (arith, ints)

pub smaller : (num g n : ℤ) → 1 ≤ unsigned_abs g → n *ℤ g ≡ num → unsigned_abs n ≤ unsigned_abs num
smaller num g n some e = omega (arith, ap unsigned_abs e, unsigned_abs-mul n g, le-mul_of_pos_right (unsigned_abs n) some)

pub reduced : (num den g n d : ℤ) → IsGcd (unsigned_abs num) (unsigned_abs den) (unsigned_abs g) → 1 ≤ unsigned_abs g
    → n *ℤ g ≡ num → d *ℤ g ≡ den → IsGcd (unsigned_abs n) (unsigned_abs d) 1
reduced num den g n d h some e f =
    let en : unsigned_abs n * unsigned_abs g ≡ unsigned_abs num = sym (unsigned_abs-mul n g) ∙ ap unsigned_abs e in
    let ed : unsigned_abs d * unsigned_abs g ≡ unsigned_abs den = sym (unsigned_abs-mul d g) ∙ ap unsigned_abs f in (
      one-dvd (unsigned_abs n),
      one-dvd (unsigned_abs d),
      λ k p q.
          let D : ℕ → Type 0 = λ m. k * unsigned_abs g ∣ m in
          let both : k * unsigned_abs g ∣ unsigned_abs g =
          h.2 (k * unsigned_abs g) (subst D en (mul-dvd-mul_right k p (unsigned_abs g))) (subst D ed (mul-dvd-mul_right k q (unsigned_abs g))) in
          dvd_of_mul-dvd-mul_right k some (subst D (sym (one-mul (unsigned_abs g))) both),
    )
