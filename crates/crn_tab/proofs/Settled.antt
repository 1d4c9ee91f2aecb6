-- What divides a difference of two primitive rows divides an entry of each.
use Rattle.crn_tab.proofs.Prelude.{◌≡◌, ◌≢◌, ℕ, zero, suc, ◌+◌, ◌*◌, ◌-◌, ◌/◌, ◌≤◌, ◌⊎◌, inl, inr, List, ap, subst, arith, ℤ, pos, ◌-ℤ◌, ◌*ℤ◌, unsigned_abs, IsGcd, ◌∣◌, ints, unsigned_abs-mul, dvd-zero, dvd_trans, dvd-add, dvd-sub, dvd-mul_right, dvd-mul_left_of_dvd, div-mul_cancel, pos_of_dvd_of_pos, eq-one_of_dvd-one, common, eq_or, entry, IsContent}
use lib.IntN.{*ℤ-zero}
use Rattle.crn_tab.proofs.Signs.{gcd_by}
use Rattle.crn_tab.proofs.Scales.{whole_only}

-- what divides m times each entry of a primitive row divides m
pub scaled : (d m : ℕ) (v : List ℤ) → IsContent v 1 → ((k : ℕ) → d ∣ m * unsigned_abs (entry v k)) → d ∣ m
scaled d zero v h e = dvd-zero d
scaled d (suc m) v h e =
    let r = gcd_by d (suc m) d (omega arith) in
    let g = r.0 in
    let some : 1 ≤ g = pos_of_dvd_of_pos r.1.0 (omega arith) in
    let whole : d / g * g ≡ d = div-mul_cancel g r.1.1 in
    let one : d / g ∣ 1 = h.greatest (d / g) (λ k. whole_only (suc m) d (d / g) g (unsigned_abs (entry v k)) r.1 whole some (e k)) in
    let same : g ≡ d = omega (arith, ap (λ n. n * g) (eq-one_of_dvd-one one), whole) in
    subst (λ n. n ∣ suc m) same r.1.0

abs_cases : (a b : ℤ) → (unsigned_abs (a -ℤ b) ≡ unsigned_abs a + unsigned_abs b)
    ⊎ ((unsigned_abs a ≡ unsigned_abs (a -ℤ b) + unsigned_abs b) ⊎ (unsigned_abs b ≡ unsigned_abs (a -ℤ b) + unsigned_abs a))
abs_cases a b = elim (eq_or (unsigned_abs (a -ℤ b)) (unsigned_abs a + unsigned_abs b)) [
  | inl e ↦ inl e
  | inr n ↦ elim (eq_or (unsigned_abs a) (unsigned_abs (a -ℤ b) + unsigned_abs b)) [
    | inl e ↦ inr (inl e)
    | inr other ↦ inr (inr (omega (arith, ints, n, other)))
  ]
]

-- what divides m times a difference and m times its first part divides m times its second
other_part : (d m : ℕ) (a b : ℤ) → d ∣ m * unsigned_abs (a -ℤ b) → d ∣ m * unsigned_abs a → d ∣ m * unsigned_abs b
other_part d m a b h first =
    let D : ℕ → Type 0 = λ n. d ∣ n in
    let x = unsigned_abs a in
    let y = unsigned_abs b in
    let w = unsigned_abs (a -ℤ b) in
    elim (abs_cases a b) [
      | inl e ↦ subst D (let f : m * w ≡ m * (x + y) = ap (λ n. m * n) e in let g : m * w - m * x ≡ m * y = omega (arith, f) in g) (dvd-sub d h first)
      | inr s ↦ elim s [
        | inl e ↦ subst D (let f : m * x ≡ m * (w + y) = ap (λ n. m * n) e in let g : m * x - m * w ≡ m * y = omega (arith, f) in g) (dvd-sub d first h)
        | inr e ↦ subst D (let f : m * y ≡ m * (w + x) = ap (λ n. m * n) e in let g : m * w + m * x ≡ m * y = omega (arith, f) in g) (dvd-add d h first)
      ]
    ]

-- what divides each entry of p x - q y, if p and q have no common divisor, divides x at n:
-- there y is 0, and with a multiple of p in place of that it is the primitive row v
pub settled : (d n h : ℕ) (p q : ℤ) (x y v : List ℤ) → IsGcd (unsigned_abs p) (unsigned_abs q) 1
    → ((k : ℕ) → d ∣ unsigned_abs ((p *ℤ entry x k) -ℤ (q *ℤ entry y k))) → entry y n ≡ pos 0
    → IsContent v 1 → ((k : ℕ) → k ≢ n → entry v k ≡ entry y k) → unsigned_abs (entry v n) ≡ unsigned_abs p * h → d ∣ unsigned_abs (entry x n)
settled d n h p q x y v one each none primitive others own =
    let D : ℕ → Type 0 = λ m. d ∣ m in
    let m = unsigned_abs (entry x n) in
    let at_n : unsigned_abs ((p *ℤ entry x n) -ℤ (q *ℤ entry y n)) ≡ m * unsigned_abs p =
    omega (arith, ints, ap (λ (t : ℤ). q *ℤ t) none, *ℤ-zero q, unsigned_abs-mul p (entry x n)) in
    let first : d ∣ m * unsigned_abs p = subst D at_n (each n) in
    scaled d m v primitive (λ k. elim (eq_or k n) [
      | inl e ↦
          let f : m * unsigned_abs p * h ≡ m * unsigned_abs (entry v k) =
          omega (arith, ap (λ i. m * i) own, ap (λ i. m * unsigned_abs (entry v i)) e) in
          subst D f (dvd_trans d first (dvd-mul_right (m * unsigned_abs p) h))
      | inr ne ↦
          let a = p *ℤ entry x k in
          let b = q *ℤ entry y k in
          let left : d ∣ m * unsigned_abs a =
          subst D (let f : m * unsigned_abs p * unsigned_abs (entry x k) ≡ m * unsigned_abs a = omega (arith, ap (λ i. m * i) (unsigned_abs-mul p (entry x k))) in f)
          (dvd_trans d first (dvd-mul_right (m * unsigned_abs p) (unsigned_abs (entry x k)))) in
          let right : d ∣ m * unsigned_abs b = other_part d m a b (dvd-mul_left_of_dvd d (each k) m) left in
          let y_k = unsigned_abs (entry y k) in
          let by_q : d ∣ m * y_k * unsigned_abs q =
          subst D (let f : m * unsigned_abs b ≡ m * y_k * unsigned_abs q = omega (arith, ap (λ i. m * i) (unsigned_abs-mul q (entry y k))) in f) right in
          let by_p : d ∣ m * y_k * unsigned_abs p =
          subst D (let f : m * unsigned_abs p * y_k ≡ m * y_k * unsigned_abs p = omega arith in f)
          (dvd_trans d first (dvd-mul_right (m * unsigned_abs p) y_k)) in
          let both : d ∣ m * y_k * 1 = common (m * y_k) d (unsigned_abs p) (unsigned_abs q) 1 one by_p by_q in
          subst D (let f : m * y_k * 1 ≡ m * unsigned_abs (entry v k) = omega (arith, ap (λ (t : ℤ). m * unsigned_abs t) (others k ne)) in f) both
    ])
