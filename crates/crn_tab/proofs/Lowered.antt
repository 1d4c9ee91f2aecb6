-- Two factors without their common divisor, and the new row that they make.
use Rattle.crn_tab.proofs.Prelude.{◌≡◌, ◌≢◌, ℕ, zero, suc, ◌<◌, List, length, sym, ap, subst, ◌∙◌, arith, ℤ, pos, negsuc, ◌-ℤ◌, ◌*ℤ◌, ◌≤ℤ◌, unsigned_abs, IsGcd, ◌∣◌, ints, unsigned_abs-mul, IsGcd-swap, negsuc-*ℤ-pos, left-comm, entry, reduced, put, IsCombined, IsNewRow, IsContent}
use lib.IntN.{zero-*ℤ}
use Rattle.crn_tab.proofs.NewRows.{put_same, put_other, put_twice}
use Rattle.crn_tab.proofs.Settled.{settled}

-- p and q are a and b times t, and a and b have no common divisor
pub record Lowered (p q a b t : ℤ) : Type 0 where
  pub some : pos 1 ≤ℤ t
  pub first : a *ℤ t ≡ p
  pub second : b *ℤ t ≡ q
  pub lowest : IsGcd (unsigned_abs a) (unsigned_abs b) 1

pub lowered : (p q a b t s : ℤ) → s ≡ t → IsGcd (unsigned_abs q) (unsigned_abs p) (unsigned_abs t) → pos 1 ≤ℤ t → a *ℤ s ≡ p → b *ℤ s ≡ q → Lowered p q a b t
lowered p q a b t s e h some first second =
    let one : a *ℤ t ≡ p = ap (λ (x : ℤ). a *ℤ x) (sym e) ∙ first in
    let two : b *ℤ t ≡ q = ap (λ (x : ℤ). b *ℤ x) (sym e) ∙ second in
    record { some = some; first = one; second = two; lowest = reduced p q t a b (IsGcd-swap (unsigned_abs q) (unsigned_abs p) (unsigned_abs t) h) (omega (arith, ints, some)) one two }

pub factor_some : (a t p : ℤ) → a *ℤ t ≡ p → pos 1 ≤ℤ p → pos 1 ≤ℤ t → pos 1 ≤ℤ a
factor_some (pos zero) t p e hp ht = absurd (omega (arith, ints, e, hp, zero-*ℤ t))
factor_some (pos (suc n)) t p e hp ht = omega (arith, ints)
factor_some (negsuc n) (pos m) p e hp ht = absurd (omega (arith, ints, e, hp, negsuc-*ℤ-pos n m))
factor_some (negsuc n) (negsuc m) p e hp ht = absurd (omega (arith, ints, ht))

-- what divides the difference divides the entry that old has at n, and the one that lead has at c
pub divides_both : (n c : ℕ) (old lead : List ℤ) (p q a b t : ℤ) → Lowered p q a b t → q ≡ entry old c → n ≢ c → c < length old → n < length lead
    → entry lead n ≡ pos 0 → IsContent old 1 → IsContent (put lead n p) 1
    → (d : ℕ) → ((k : ℕ) → d ∣ unsigned_abs ((a *ℤ entry (put old c (pos 0)) k) -ℤ (b *ℤ entry lead k)))
    → (d ∣ unsigned_abs (entry lead c)) × (d ∣ unsigned_abs (entry old n))
divides_both n c old lead p q a b t l e ne c_lt n_lt none old_one lead_one d h =
    let row = put old c (pos 0) in
    let D : ℕ → Type 0 = λ m. d ∣ m in
    let other_way : (k : ℕ) → d ∣ unsigned_abs ((b *ℤ entry lead k) -ℤ (a *ℤ entry row k)) = λ k.
    subst D (let f : unsigned_abs ((a *ℤ entry row k) -ℤ (b *ℤ entry lead k)) ≡ unsigned_abs ((b *ℤ entry lead k) -ℤ (a *ℤ entry row k)) = omega (arith, ints) in f) (h k) in (
      settled d c (unsigned_abs t) b a lead row old (IsGcd-swap (unsigned_abs a) (unsigned_abs b) 1 l.lowest) other_way (put_same old c (pos 0) c_lt) old_one
          (λ k other. sym (put_other old c k (pos 0) c_lt other)) (ap unsigned_abs (sym e ∙ sym l.second) ∙ unsigned_abs-mul b t),
      subst D (ap unsigned_abs (put_other old c n (pos 0) c_lt ne))
          (settled d n (unsigned_abs t) a b row lead (put lead n p) l.lowest h none lead_one
          (λ k other. put_other lead n k p n_lt other) (ap unsigned_abs (put_same lead n p n_lt ∙ sym l.first) ∙ unsigned_abs-mul a t)),
    )

pub new_row_lowered : (n c : ℕ) (old lead z : List ℤ) (p q a b t : ℤ) → Lowered p q a b t → q ≡ entry old c → n < length lead → entry lead n ≡ pos 0 → pos 1 ≤ℤ p
    → IsCombined a b (put old c (pos 0)) lead z → IsNewRow n c old (put lead n p) z
new_row_lowered n c old lead z p q a b t l eq lt e some h =
    let same : put (put lead n p) n (pos 0) ≡ lead = put_twice lead n p lt e in
    let C : List ℤ → Type 0 = λ v. IsCombined a b (put old c (pos 0)) v z in
    record {
      p = a;
      q = b;
      some = factor_some a t p l.first some l.some;
      gone = ap (λ (x : ℤ). a *ℤ x) (sym eq ∙ sym l.second) ∙ left-comm a b t ∙ ap (λ (x : ℤ). b *ℤ x) (l.first ∙ sym (put_same lead n p lt));
      is = subst C (sym same) h;
    }
