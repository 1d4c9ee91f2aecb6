-- A list and its negative: sums over classes, first entries, and what is kept.
use Rattle.crn_reg.proofs.Prelude.{◌≡◌, ◌≢◌, ℕ, zero, suc, ◌<◌, ◌⊎◌, inl, inr, List, [], ◌∷◌, length, map, refl, sym, ap, subst, ◌∙◌, arith, ℤ, pos, negsuc, neg_ℤ, ◌≤ℤ◌, unsigned_abs, ◌∣◌, ints, length-map, ext_get_or, WIDE_ENTRY, Mat, entry, dot, label_marks, IsNonzero, LeadsPositive, lt_or, entry-neg, dot-neg, IsKeptSolution, IsFirstPlace, IsSameOrNegative, class_sum, AreZeroBefore, IsFirstSum, GathersFirst, IsFirstEntry}

-- ---- the negative of a list

pub sum-negated : (labels : List ℕ) (g : List ℤ) (m : ℕ) → class_sum labels (map neg_ℤ g) m ≡ neg_ℤ (class_sum labels g m)
sum-negated labels g m = dot-neg (label_marks labels m) g

-- ---- what a vector and its negative share

either_entry : (g t : List ℤ) (k : ℕ) → IsSameOrNegative g t → (entry t k ≡ entry g k) ⊎ (entry t k ≡ neg_ℤ (entry g k))
either_entry g t k (inl e) = inl (ap (λ (l : List ℤ). entry l k) e)
either_entry g t k (inr e) = inr (ap (λ (l : List ℤ). entry l k) e ∙ entry-neg g k)

either_size : (g t : List ℤ) (k : ℕ) → IsSameOrNegative g t → unsigned_abs (entry t k) ≡ unsigned_abs (entry g k)
either_size g t k h = elim (either_entry g t k h) as (λ _. unsigned_abs (entry t k) ≡ unsigned_abs (entry g k)) [
  | inl e ↦ ap unsigned_abs e
  | inr e ↦ let same : unsigned_abs (neg_ℤ (entry g k)) ≡ unsigned_abs (entry g k) = omega (arith, ints) in ap unsigned_abs e ∙ same
]

either_zero : (g t : List ℤ) (k : ℕ) → IsSameOrNegative g t → entry g k ≡ pos 0 → entry t k ≡ pos 0
either_zero g t k h z = elim (either_entry g t k h) as (λ _. entry t k ≡ pos 0) [
  | inl e ↦ e ∙ z
  | inr e ↦ e ∙ ap neg_ℤ z
]

either_some : (g t : List ℤ) (k : ℕ) → IsSameOrNegative g t → entry g k ≢ pos 0 → entry t k ≢ pos 0
either_some g t k h ne z = elim (either_entry g t k h) as (λ _. ⊥) [
  | inl e ↦ ne (sym e ∙ z)
  | inr e ↦ ne (omega (arith, ints, e, z))
]

either_dot : (g t m : List ℤ) → IsSameOrNegative g t → dot m g ≡ pos 0 → dot m t ≡ pos 0
either_dot g t m (inl e) z = ap (dot m) e ∙ z
either_dot g t m (inr e) z = ap (dot m) e ∙ dot-neg m g ∙ ap neg_ℤ z

either_long : (g t : List ℤ) → IsSameOrNegative g t → length t ≡ length g
either_long g t (inl e) = ap length e
either_long g t (inr e) = ap length e ∙ length-map g neg_ℤ

pub either_kept : (a : Mat) (g t : List ℤ) → IsSameOrNegative g t → IsKeptSolution a g → IsKeptSolution a t
either_kept a g t h s =
    record {
      solution = record { long = either_long g t h ∙ s.solution.long; zero = λ r i. either_dot g t r h (s.solution.zero r i) };
      primitive = λ d e. s.primitive d (λ k. (let D : ℕ → Type 0 = λ n. d ∣ n in subst D (either_size g t k h) (e k)));
      small = λ k. (let S : ℕ → Type 0 = λ n. n < WIDE_ENTRY in subst S (sym (either_size g t k h)) (s.small k));
    }

pub either_first : (g t : List ℤ) (p : ℕ) → IsSameOrNegative g t → IsFirstPlace g p → IsFirstPlace t p
either_first g t p h f = record { some = either_some g t p h f.some; before = λ k lt. either_zero g t k h (f.before k lt) }

-- ---- the first sum

-- if the first sum that is not zero is not negative, the vector stays
pub gathers_kept : (labels exits : List ℕ) (g : List ℤ) (x : ℤ) → IsFirstSum labels exits g x → pos 0 ≤ℤ x → GathersFirst labels exits g
gathers_kept labels exits g x h le m lt term before = elim (h m lt term before) as (λ _. pos 0 ≤ℤ class_sum labels g (suc m)) [
  | inl e ↦ omega (arith, ints, e, le)
  | inr e ↦ omega (arith, ints, e)
]

-- and else its negative gathers
pub gathers_negated : (labels exits : List ℕ) (g : List ℤ) (x : ℤ) → IsFirstSum labels exits g x → x ≤ℤ pos 0 → GathersFirst labels exits (map neg_ℤ g)
gathers_negated labels exits g x h le m lt term before =
    let own = sum-negated labels g (suc m) in
    let back : AreZeroBefore labels exits g m = λ j jl jt. (let s = sum-negated labels g (suc j) in let z = before j jl jt in omega (arith, ints, s, z)) in
    elim (h m lt term back) as (λ _. pos 0 ≤ℤ class_sum labels (map neg_ℤ g) (suc m)) [
      | inl e ↦ omega (arith, ints, e, le, own)
      | inr e ↦ omega (arith, ints, e, own)
    ]

-- ---- the first entry

pub first_entry_at : (g : List ℤ) (p : ℕ) → IsFirstPlace g p → IsFirstEntry g (entry g p)
first_entry_at g p f k before = elim (lt_or k p) as (λ _. (entry g k ≡ entry g p) ⊎ (entry g k ≡ pos 0)) [
  | inl lt ↦ inr (f.before k lt)
  | inr ge ↦ elim (lt_or p k) as (λ _. (entry g k ≡ entry g p) ⊎ (entry g k ≡ pos 0)) [
    | inl less ↦ absurd (f.some (before p less))
    | inr le ↦ inl (ap (entry g) (let e : k ≡ p = omega (arith, ge, le) in e))
  ]
]

-- the least place of an entry that is not zero
pub least_place : (g : List ℤ) (j : ℕ) → entry g j ≢ pos 0 → (p : ℕ) × IsFirstPlace g p
least_place [] j ne = absurd (ne refl)
least_place (pos zero ∷ g) zero ne = absurd (ne refl)
least_place (pos zero ∷ g) (suc j) ne =
    let r = least_place g j ne in
    (suc r.0, record { some = r.1.some; before = λ k lt. before_of g r.0 r.1 k lt })
  where
    before_of : (g : List ℤ) (p : ℕ) → IsFirstPlace g p → (k : ℕ) → k < suc p → entry (pos zero ∷ g) k ≡ pos 0
    before_of g p f zero lt = refl
    before_of g p f (suc k) lt = f.before k (omega (arith, lt))
least_place (pos (suc n) ∷ g) j ne = (0, record { some = λ e. omega (arith, ints, e); before = λ k lt. absurd (omega (arith, lt)) })
least_place (negsuc n ∷ g) j ne = (0, record { some = λ e. omega (arith, ints, e); before = λ k lt. absurd (omega (arith, lt)) })

pub leads_kept : (g : List ℤ) (x : ℤ) → IsNonzero g → IsFirstEntry g x → pos 0 ≤ℤ x → LeadsPositive g
leads_kept g x some h le =
    let p = least_place g some.0 some.1 in
    elim (h p.0 p.1.before) as (λ _. LeadsPositive g) [
      | inl e ↦ (p.0, omega (arith, ints, e, le, p.1.some), p.1.before)
      | inr e ↦ absurd (p.1.some e)
    ]

pub leads_negated : (g : List ℤ) (x : ℤ) → IsNonzero g → IsFirstEntry g x → x ≤ℤ pos 0 → LeadsPositive (map neg_ℤ g)
leads_negated g x some h le =
    let p = least_place g some.0 some.1 in
    let at = entry-neg g p.0 in
    elim (h p.0 p.1.before) as (λ _. LeadsPositive (map neg_ℤ g)) [
      | inl e ↦ (p.0, omega (arith, ints, e, le, p.1.some, at), λ k lt. entry-neg g k ∙ ap neg_ℤ (p.1.before k lt))
      | inr e ↦ absurd (p.1.some e)
    ]

-- a list by its entries
pub negated_by : (g t : List ℤ) → length t ≡ length g → ((k : ℕ) → k < length g → entry t k ≡ neg_ℤ (entry g k)) → t ≡ map neg_ℤ g
negated_by g t l h = ext_get_or (pos 0) t (map neg_ℤ g) (l ∙ sym (length-map g neg_ℤ)) (λ k lt. h k (omega (arith, lt, l)) ∙ sym (entry-neg g k))
