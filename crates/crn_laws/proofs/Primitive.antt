-- Primitive lists of which positive multiples are equal are equal.
use Rattle.crn_laws.proofs.Prelude.{◌≡◌, ℕ, zero, suc, ◌+◌, ◌-◌, ◌*◌, ◌≤◌, inl, inr, List, sym, ap, subst, ◌∙◌, arith, ℤ, pos, negsuc, neg_ℤ, ◌*ℤ◌, ◌≤ℤ◌, ◌<ℤ◌, unsigned_abs, ◌∣◌, ints, unsigned_abs-mul, dvd-mul_right, eq_of_mul-eq-mul_left, entry, IsPrimitive, ArePositiveMultiples, abs_some, lt_or, mul-neg, pos_pos, positive_some}

-- numbers that are multiples of the same
record Factors (x y : ℕ → ℕ) : Type 0 where
  u : ℕ → ℕ
  p : ℕ
  q : ℕ
  left : (k : ℕ) → x k ≡ p * u k
  right : (k : ℕ) → y k ≡ q * u k

-- of equal multiples the one with the lesser factor is the greater
above : (a d x y : ℕ) → 1 ≤ a → a * x ≡ (a + d) * y → y ≤ x
above a d x y some e = elim (lt_or x y) as (λ _. y ≤ x) [
  | inl less ↦
      let w = y - (x + 1) in
      let f : y ≡ x + 1 + w = omega (arith, less) in
      let g : a * x ≡ (a + d) * (x + 1 + w) = e ∙ ap (λ (n : ℕ). (a + d) * n) f in
      absurd (omega (arith, some, g))
  | inr most ↦ most
]

factors : (n a b : ℕ) → a + b ≤ n → 1 ≤ a → 1 ≤ b → (x y : ℕ → ℕ) → ((k : ℕ) → a * x k ≡ b * y k) → Factors x y
factors zero a b le la lb x y h = absurd (omega (arith, le, la))
factors (suc n) a b le la lb x y h = elim (lt_or a b) as (λ _. Factors x y) [
  | inl less ↦
      let d = b - a in
      let is : b ≡ a + d = omega (arith, less) in
      let z : ℕ → ℕ = λ k. x k - y k in
      let more : (k : ℕ) → y k ≤ x k = λ k. above a d (x k) (y k) la (h k ∙ ap (λ (m : ℕ). m * y k) is) in
      let sum : (k : ℕ) → x k ≡ y k + z k = λ k. let m = more k in omega (arith, m) in
      let same : (k : ℕ) → a * z k ≡ d * y k = λ k.
      let e : a * (y k + z k) ≡ (a + d) * y k = ap (λ (m : ℕ). a * m) (sym (sum k)) ∙ h k ∙ ap (λ (m : ℕ). m * y k) is in
      omega (arith, e) in
      let f = factors n a d (omega (arith, le, is, lb)) la (omega (arith, less, is)) z y same in
      record {
        u = f.u;
        p = f.p + f.q;
        q = f.q;
        left = λ k. let s = sum k in let l = f.left k in let r = f.right k in omega (arith, s, l, r);
        right = f.right;
      }
  | inr most ↦ elim (lt_or b a) as (λ _. Factors x y) [
    | inl less ↦
        let d = a - b in
        let is : a ≡ b + d = omega (arith, less) in
        let z : ℕ → ℕ = λ k. y k - x k in
        let more : (k : ℕ) → x k ≤ y k = λ k. above b d (y k) (x k) lb (sym (h k) ∙ ap (λ (m : ℕ). m * x k) is) in
        let sum : (k : ℕ) → y k ≡ x k + z k = λ k. let m = more k in omega (arith, m) in
        let same : (k : ℕ) → b * z k ≡ d * x k = λ k.
        let e : b * (x k + z k) ≡ (b + d) * x k = ap (λ (m : ℕ). b * m) (sym (sum k)) ∙ sym (h k) ∙ ap (λ (m : ℕ). m * x k) is in
        omega (arith, e) in
        let f = factors n b d (omega (arith, le, is, la)) lb (omega (arith, less, is)) z x same in
        record {
          u = f.u;
          p = f.q;
          q = f.p + f.q;
          left = f.right;
          right = λ k. let s = sum k in let l = f.left k in let r = f.right k in omega (arith, s, l, r);
        }
    | inr least ↦
        let is : b ≡ a = omega (arith, most, least) in
        record {
          u = x;
          p = 1;
          q = 1;
          left = λ k. omega arith;
          right = λ k.
              let e : y k ≡ x k = eq_of_mul-eq-mul_left a la (y k) (x k) (ap (λ (m : ℕ). m * y k) (sym is) ∙ sym (h k)) in
              omega (arith, e);
        }
  ]
]

same_sign_too : (x y a b : ℤ) → pos 1 ≤ℤ a → pos 1 ≤ℤ b → a *ℤ x ≡ b *ℤ y → unsigned_abs x ≡ unsigned_abs y → x ≡ y
same_sign_too (pos n) (pos m) a b la lb e size = ap pos size
same_sign_too (negsuc n) (negsuc m) a b la lb e size = omega (arith, ints, size)
same_sign_too (pos n) (negsuc m) a b la lb e size =
    let f : b *ℤ negsuc m ≡ neg_ℤ (b *ℤ pos (suc m)) = mul-neg b (pos (suc m)) in
    let g : pos 0 <ℤ (b *ℤ pos (suc m)) = pos_pos b (pos (suc m)) (omega (arith, ints, lb)) (omega (arith, ints)) in
    let k : pos 0 <ℤ (a *ℤ pos n) = pos_pos a (pos n) (omega (arith, ints, la)) (omega (arith, ints, size)) in
    absurd (omega (arith, ints, e, f, g, k))
same_sign_too (negsuc n) (pos m) a b la lb e size =
    let f : a *ℤ negsuc n ≡ neg_ℤ (a *ℤ pos (suc n)) = mul-neg a (pos (suc n)) in
    let g : pos 0 <ℤ (a *ℤ pos (suc n)) = pos_pos a (pos (suc n)) (omega (arith, ints, la)) (omega (arith, ints)) in
    let k : pos 0 <ℤ (b *ℤ pos m) = pos_pos b (pos m) (omega (arith, ints, lb)) (omega (arith, ints, size)) in
    absurd (omega (arith, ints, e, f, g, k))

pub primitive_same : (g h : List ℤ) → IsPrimitive g → IsPrimitive h → ArePositiveMultiples g h → (k : ℕ) → entry g k ≡ entry h k
primitive_same g h pg ph m k =
    let a = unsigned_abs m.a in
    let b = unsigned_abs m.b in
    let x : ℕ → ℕ = λ j. unsigned_abs (entry g j) in
    let y : ℕ → ℕ = λ j. unsigned_abs (entry h j) in
    let sizes : (j : ℕ) → a * x j ≡ b * y j = λ j. sym (unsigned_abs-mul m.a (entry g j)) ∙ ap unsigned_abs (m.is j) ∙ unsigned_abs-mul m.b (entry h j) in
    let f = factors (a + b) a b (omega arith) (abs_some m.a (positive_some m.a m.a_positive)) (abs_some m.b (positive_some m.b m.b_positive)) x y sizes in
    let p_one : f.p ≡ 1 = pg f.p (λ j. subst (λ (n : ℕ). f.p ∣ n) (sym (f.left j)) (dvd-mul_right f.p (f.u j))) in
    let q_one : f.q ≡ 1 = ph f.q (λ j. subst (λ (n : ℕ). f.q ∣ n) (sym (f.right j)) (dvd-mul_right f.q (f.u j))) in
    let same : x k ≡ y k = f.left k ∙ ap (λ (n : ℕ). n * f.u k) (p_one ∙ sym q_one) ∙ sym (f.right k) in
    same_sign_too (entry g k) (entry h k) m.a m.b m.a_positive m.b_positive (m.is k) same
