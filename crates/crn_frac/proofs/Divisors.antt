-- Common divisors of multiples.
use Rattle.crn_frac.proofs.Prelude.{◌≡◌, ℕ, zero, suc, ◌+◌, ◌-◌, ◌*◌, ◌/◌, ◌%◌, ◌<◌, ◌≤◌, refl, sym, ap, subst, ◌∙◌, arith, IsGcd, ◌∣◌, dvd-mul_left, dvd-mul_right, dvd-sub, dvd-mod_iff, div-add-mod, div-mul_cancel, mul-dvd-mul_right, dvd_of_mul-dvd-mul_right, mul_comm, mul_assoc, dvd_trans, dvd_antisymm, IsGcd-from_zero, same_from_IsGcd, IsLcm}

-- Euclid's step the other way
pub IsGcd-to_mod : (a b g : ℕ) → IsGcd a b g → IsGcd b (a % b) g
IsGcd-to_mod a b g h = (h.1, (dvd-mod_iff g h.1).1 h.0, λ d p q. h.2 d ((dvd-mod_iff d p).0 q) p)

dvd-scaled_mod : (x d p q : ℕ) → d ∣ x * p → d ∣ x * q → d ∣ x * (p % q)
dvd-scaled_mod x d p q h k =
    let f : x * (q * (p / q) + p % q) ≡ x * p = ap (λ n. x * n) (div-add-mod p q) in
    let e : x * p - x * q * (p / q) ≡ x * (p % q) = omega (arith, f) in
    let D : ℕ → Type 0 = λ n. d ∣ n in
    subst D e (dvd-sub d h (dvd_trans d k (dvd-mul_right (x * q) (p / q))))

common_by : (k x d p q g : ℕ) → q ≤ k → IsGcd p q g → d ∣ x * p → d ∣ x * q → d ∣ x * g
common_by k x d p zero g le h a b =
    let e : p ≡ g = same_from_IsGcd p 0 p g (IsGcd-from_zero p 0 refl) h in
    let D : ℕ → Type 0 = λ n. d ∣ x * n in
    subst D e a
common_by zero x d p (suc q) g le h a b = absurd (omega arith)
common_by (suc k) x d p (suc q) g le h a b =
    common_by k x d (suc q) (p % suc q) g (let l : p % suc q < suc q = omega arith in omega arith) (IsGcd-to_mod p (suc q) g h) b (dvd-scaled_mod x d p (suc q) a b)

-- a common divisor of x p and x q divides x g
pub common : (x d p q g : ℕ) → IsGcd p q g → d ∣ x * p → d ∣ x * q → d ∣ x * g
common x d p q g h a b = common_by q x d p q g (omega arith) h a b

-- with a = x g and g the greatest common divisor, x b is the least common multiple
pub lcm_is : (a b g x : ℕ) → IsGcd a b g → x * g ≡ a → 1 ≤ g → IsLcm a b (x * b)
lcm_is a b g x h e some =
    let D : ℕ → ℕ → Type 0 = λ m n. m ∣ n in
    let first : x * g * (b / g) ≡ x * b = mul_assoc x g (b / g) ∙ ap (λ n. x * n) (mul_comm g (b / g) ∙ div-mul_cancel g h.1) in
    let f : a ∣ x * b = subst (D a) (ap (λ n. n * (b / g)) (sym e) ∙ first) (dvd-mul_right a (b / g)) in (
      f,
      dvd-mul_left b x,
      λ d p q.
          let left : b * a ∣ d * a = mul-dvd-mul_right b q a in
          let right : a * b ∣ d * b = mul-dvd-mul_right a p b in
          let both : a * b ∣ d * g = common d (a * b) a b g h (subst (λ n. n ∣ d * a) (mul_comm b a) left) right in
          let same : a * b ≡ x * b * g = ap (λ n. n * b) (sym e) ∙ (mul_assoc x g b ∙ ap (λ n. x * n) (mul_comm g b) ∙ sym (mul_assoc x b g)) in
          dvd_of_mul-dvd-mul_right (x * b) some (subst (λ n. n ∣ d * g) same both),
    )

-- there is one least common multiple
pub lcm_same : (a b l k : ℕ) → IsLcm a b l → IsLcm a b k → l ≡ k
lcm_same a b l k p q = dvd_antisymm (p.2 k q.0 q.1) (q.2 l p.0 p.1)
