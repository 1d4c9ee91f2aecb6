-- The new row of an exchange, from its difference.
use Rattle.crn_tab.proofs.Prelude.{◌≡◌, ◌≢◌, ℕ, zero, suc, ◌<◌, ◌≤◌, ◌⊎◌, inl, inr, List, [], ◌∷◌, length, refl, sym, ap, ◌∙◌, arith, ℤ, pos, ◌-ℤ◌, ◌*ℤ◌, unsigned_abs, ints, length-set, entry, AreBelow, put, IsNewRow, IsContent}
use lib.IntN.{zero-*ℤ}
use Rattle.crn_tab.proofs.SameRows.{same_rows}

-- a place is the written one or as before
pub look : (v : List ℤ) (c k : ℕ) (x : ℤ) → c < length v → ((k ≡ c) × (entry (put v c x) k ≡ x)) ⊎ ((k ≢ c) × (entry (put v c x) k ≡ entry v k))
look [] c k x h = absurd (omega arith)
look (y ∷ v) zero zero x h = inl (refl, refl)
look (y ∷ v) zero (suc k) x h = inr ((λ e. omega arith), refl)
look (y ∷ v) (suc c) zero x h = inr ((λ e. omega arith), refl)
look (y ∷ v) (suc c) (suc k) x h = elim (look v c k x (omega arith)) [
  | inl r ↦ inl (ap suc r.0, r.1)
  | inr r ↦ inr ((λ e. r.0 (omega arith)), r.1)
]

pub put_same : (v : List ℤ) (c : ℕ) (x : ℤ) → c < length v → entry (put v c x) c ≡ x
put_same v c x h = elim (look v c c x h) [ inl r ↦ r.1 | inr r ↦ absurd (r.0 refl) ]

pub put_other : (v : List ℤ) (c k : ℕ) (x : ℤ) → c < length v → k ≢ c → entry (put v c x) k ≡ entry v k
put_other v c k x h ne = elim (look v c k x h) [ inl r ↦ absurd (ne r.0) | inr r ↦ r.1 ]

-- a list of numbers below a bound is so with a 0 written, too
pub below_without : (b : ℕ) (v : List ℤ) (c : ℕ) → 1 ≤ b → c < length v → AreBelow b v → AreBelow b (put v c (pos 0))
below_without b v c some lt h k = elim (look v c k (pos 0) lt) [
  | inl r ↦ omega (arith, ints, some, ap unsigned_abs r.1)
  | inr r ↦ omega (arith, h k, ap unsigned_abs r.1)
]

-- to write what is there changes nothing
pub put_was : (v : List ℤ) (c : ℕ) (x : ℤ) → c < length v → entry v c ≡ x → put v c x ≡ v
put_was v c x h e = same_rows (put v c x) v (length-set v c x)
    (λ k lt. elim (look v c k x h) [ inl r ↦ r.1 ∙ sym e ∙ ap (λ i. entry v i) (sym r.0) | inr r ↦ r.1 ])

pub put_twice : (v : List ℤ) (n : ℕ) (x : ℤ) → n < length v → entry v n ≡ pos 0 → put (put v n x) n (pos 0) ≡ v
put_twice v n x h e = same_rows (put (put v n x) n (pos 0)) v (length-set (put v n x) n (pos 0) ∙ length-set v n x)
    (λ k lt. elim (look (put v n x) n k (pos 0) (omega (arith, length-set v n x))) [
      | inl r ↦ r.1 ∙ sym e ∙ ap (λ i. entry v i) (sym r.0)
      | inr r ↦ r.1 ∙ put_other v n k x h r.0
    ])

one_zero : (a b : ℤ) → a *ℤ pos 1 ≡ (pos 1 *ℤ a) -ℤ (pos 0 *ℤ b)
one_zero a b = omega (arith, ints, zero-*ℤ b)

-- if the leaving coordinate is not in the row, the row stays
pub new_row_none : (n c : ℕ) (old lead : List ℤ) → c < length old → entry old c ≡ pos 0 → IsContent old 1 → IsNewRow n c old lead old
new_row_none n c old lead lt e h = record {
  p = pos 1;
  q = pos 0;
  some = omega (arith, ints);
  gone = ap (λ (t : ℤ). pos 1 *ℤ t) e ∙ sym (zero-*ℤ (entry lead n));
  is = record {
    t = pos 1;
    some = omega (arith, ints);
    long = sym (length-set old c (pos 0));
    is = λ k. one_zero (entry old k) (entry (put lead n (pos 0)) k) ∙ ap (λ (w : List ℤ). (pos 1 *ℤ entry w k) -ℤ (pos 0 *ℤ entry (put lead n (pos 0)) k)) (sym (put_was old c (pos 0) lt e));
    primitive = h;
  };
}
