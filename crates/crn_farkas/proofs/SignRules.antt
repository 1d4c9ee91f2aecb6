-- Signs of products and quotients.
use Rattle.crn_farkas.proofs.Prelude.{◌≡◌, ◌≢◌, zero, suc, refl, sym, subst, arith, ℤ, pos, negsuc, ◌+ℤ◌, ◌*ℤ◌, neg_ℤ, ◌≤ℤ◌, ints, Sign, HasSign, assoc, one-mul, sign_carried}

-- the sign of a product with a positive number
pub sign_divided : (s : Sign) (p x : ℤ) → pos 1 ≤ℤ p → HasSign s (p *ℤ x) → HasSign s x
sign_divided s p x h k = sign_carried s (pos 1) p (p *ℤ x) x (omega (arith, ints)) h (one-mul (p *ℤ x)) k

square : (x : ℤ) → x ≢ pos 0 → pos 1 ≤ℤ (x *ℤ x)
square (pos zero) h = absurd (h refl)
square (pos (suc x)) h = omega (arith, ints)
square (negsuc x) h = omega (arith, ints)

-- the sign of a factor, from those of the product and of the other factor
pub sign_of_factor : (s : Sign) (x y : ℤ) → x ≢ pos 0 → HasSign s (x *ℤ (x *ℤ y)) → HasSign s y
sign_of_factor s x y n h = sign_divided s (x *ℤ x) y (square x n) (subst (HasSign s) (sym (assoc x x y)) h)

pub minus_sum : (p q : ℤ) → p +ℤ q ≡ pos 0 → neg_ℤ p ≡ q
minus_sum p q e = omega (arith, ints, e)
