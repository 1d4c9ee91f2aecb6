-- The scale of a column: the least common multiple of the reduced denominators of its rows.
use Rattle.crn_tab.proofs.Prelude.{◌≡◌, ℕ, zero, suc, ◌+◌, ◌*◌, ◌/◌, ◌<◌, ◌≤◌, inl, inr, List, sym, subst, arith, ℤ, pos, unsigned_abs, IsGcd, ◌∣◌, dvd-mul_left, dvd-mul_right, div-mul_cancel, mul-dvd-mul_right, dvd_of_mul-dvd-mul_right, mul_comm, pos_of_dvd_of_pos, one-le-mul, one-dvd, dvd_trans, IsLcm, common, lcm_is, entry, eq_or, row_at, IsScale, dvd-zero, dvd_refl, IsScaledBy, ap}
use Rattle.crn_tab.proofs.Signs.{gcd_by}

times : (a l k : ℕ) → l ∣ k → a * l ∣ a * k
times a l k h = subst (λ n. n ∣ a * k) (mul_comm l a) (subst (λ n. l * a ∣ n) (mul_comm k a) (mul-dvd-mul_right l h a))

-- with d = q g and g the greatest common divisor of a and d: d divides a x if and only if q divides x
pub whole_from : (a d q g x : ℕ) → IsGcd a d g → q * g ≡ d → q ∣ x → d ∣ a * x
whole_from a d q g x is e h =
    let D : ℕ → ℕ → Type 0 = λ m n. m ∣ n in
    let first : q * g ∣ x * g = mul-dvd-mul_right q h g in
    let second : x * g ∣ x * a = times x g a is.0 in
    subst (D d) (mul_comm x a) (dvd_trans d (subst (λ n. n ∣ x * g) e first) second)

pub whole_only : (a d q g x : ℕ) → IsGcd a d g → q * g ≡ d → 1 ≤ g → d ∣ a * x → q ∣ x
whole_only a d q g x is e some h =
    let D : ℕ → ℕ → Type 0 = λ m n. m ∣ n in
    let left : d ∣ x * a = subst (D d) (mul_comm a x) h in
    let both : d ∣ x * g = common x d a d g is left (dvd-mul_left d x) in
    dvd_of_mul-dvd-mul_right q some (subst (λ n. n ∣ x * g) (sym e) both)

pub no_rows : (n c : ℕ) (rows : List ℤ) → IsScale n c rows 0 1
no_rows n c rows = record {
  some = omega arith;
  whole = λ j h. absurd (omega arith);
  least = λ x h. one-dvd x;
}

-- one more row: the least common multiple with its reduced denominator
pub more_rows : (n c : ℕ) (rows : List ℤ) (i l q g l' : ℕ) → IsScale n c rows i l
    → IsGcd (unsigned_abs (entry (row_at (n + 1) rows i) c)) (unsigned_abs (entry (row_at (n + 1) rows i) n)) g
    → q * g ≡ unsigned_abs (entry (row_at (n + 1) rows i) n) → 1 ≤ unsigned_abs (entry (row_at (n + 1) rows i) n) → IsLcm l q l' → IsScale n c rows (suc i) l'
more_rows n c rows i l q g l' s is e some lcm =
    let den = unsigned_abs (entry (row_at (n + 1) rows i) n) in
    let a = unsigned_abs (entry (row_at (n + 1) rows i) c) in
    let D : ℕ → ℕ → Type 0 = λ m k. m ∣ k in
    let q_divides : q ∣ den = subst (D q) e (dvd-mul_right q g) in
    let q_some : 1 ≤ q = pos_of_dvd_of_pos q_divides some in
    let g_some : 1 ≤ g = pos_of_dvd_of_pos is.1 some in
    let both : l' ∣ l * q = lcm.2 (l * q) (dvd-mul_right l q) (dvd-mul_left q l) in
    record {
      some = pos_of_dvd_of_pos both (one-le-mul s.some q_some);
      whole = λ j h. elim (eq_or j i) as (λ _. unsigned_abs (entry (row_at (n + 1) rows j) n) ∣ unsigned_abs (entry (row_at (n + 1) rows j) c) * l') [
        | inl same ↦
            let W : ℕ → Type 0 = λ k. unsigned_abs (entry (row_at (n + 1) rows k) n) ∣ unsigned_abs (entry (row_at (n + 1) rows k) c) * l' in
            subst W (sym same) (whole_from a den q g l' is e lcm.1)
        | inr ne ↦ dvd_trans (unsigned_abs (entry (row_at (n + 1) rows j) n)) (s.whole j (omega arith)) (times (unsigned_abs (entry (row_at (n + 1) rows j) c)) l l' lcm.0)
      ];
      least = λ x h. lcm.2 x (s.least x (λ j lt. h j (omega arith))) (whole_only a den q g x is e g_some (h i (omega arith)));
    }

-- there is a scale of all rows
pub scale_of : (n c : ℕ) (rows : List ℤ) (i : ℕ) → ((j : ℕ) → j < i → 1 ≤ unsigned_abs (entry (row_at (n + 1) rows j) n)) → (l : ℕ) × IsScale n c rows i l
scale_of n c rows zero h = (1, no_rows n c rows)
scale_of n c rows (suc i) h =
    let before = scale_of n c rows i (λ j lt. h j (omega arith)) in
    let l = before.0 in
    let a = unsigned_abs (entry (row_at (n + 1) rows i) c) in
    let den = unsigned_abs (entry (row_at (n + 1) rows i) n) in
    let some : 1 ≤ den = h i (omega arith) in
    let r = gcd_by den a den (omega arith) in
    let g = r.0 in
    let q = den / g in
    let e : q * g ≡ den = div-mul_cancel g r.1.1 in
    let D : ℕ → ℕ → Type 0 = λ m k. m ∣ k in
    let q_some : 1 ≤ q = pos_of_dvd_of_pos (subst (D q) e (dvd-mul_right q g)) some in
    let f = gcd_by q l q (omega arith) in
    let k = f.0 in
    let k_some : 1 ≤ k = pos_of_dvd_of_pos f.1.1 q_some in
    let lcm : IsLcm l q (l / k * q) = lcm_is l q k (l / k) f.1 (div-mul_cancel k f.1.0) k_some in
    (l / k * q, more_rows n c rows i l q g (l / k * q) before.1 r.1 e some lcm)

-- the scale of more rows is a multiple of that of the first ones
pub scale_grows : (n c : ℕ) (rows : List ℤ) (i m l k : ℕ) → i ≤ m → IsScale n c rows i l → IsScale n c rows m k → l ∣ k
scale_grows n c rows i m l k le p q = p.least k (λ j lt. q.whole j (omega arith))

-- if the fraction times the scale is whole, or 0, the scale stays
pub stays : (num den : ℤ) (l : ℕ) → 1 ≤ unsigned_abs den → unsigned_abs den ∣ unsigned_abs num * l → IsScaledBy num den l l
stays num den l some h =
    let a = unsigned_abs num in
    let d = unsigned_abs den in
    let r = gcd_by d a d (omega arith) in
    let g = r.0 in
    let q = d / g in
    let e : q * g ≡ d = div-mul_cancel g r.1.1 in
    record { g = g; gcd = r.1; q = q; reduced = e; is = (dvd_refl l, whole_only a d q g l r.1 e (pos_of_dvd_of_pos r.1.1 some) h, λ x m n. m) }

pub stays_zero : (num den : ℤ) (l : ℕ) → num ≡ pos 0 → IsScaledBy num den l l
stays_zero num den l e =
    let d = unsigned_abs den in
    let zero_abs : unsigned_abs num ≡ 0 = ap unsigned_abs e in
    record {
      g = d;
      gcd = (subst (λ n. d ∣ n) (sym zero_abs) (dvd-zero d), dvd_refl d, λ k p q. q);
      q = 1;
      reduced = omega (arith);
      is = (dvd_refl l, one-dvd l, λ x m n. m);
    }
