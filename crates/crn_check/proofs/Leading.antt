-- The first number of a list that is not zero, and the greatest common divisor of a list.
use Rattle.crn_check.proofs.Prelude.{◌≡◌, ◌≢◌, inl, inr, ℕ, zero, suc, ◌<◌, ◌≤◌, List, [], ◌∷◌, length, refl, sym, ap, subst, ◌∙◌, arith, ℤ, pos, ◌≤ℤ◌, ◌∣◌, ints, eq-one_of_dvd-one, entry, IsPrimitive, IsNonzero, LeadsPositive, lt_or, past_end, least_from, IsDivisor}

least_on : (k : ℕ) (g : List ℤ) → least_from (suc k) g ≡ suc (least_from k g)
least_on k (pos zero ∷ g) = least_on (suc k) g
least_on k g = refl

pub least_before : (g : List ℤ) (j : ℕ) → j < least_from 0 g → entry g j ≡ pos 0
least_before (pos zero ∷ g) zero lt = refl
least_before (pos zero ∷ g) (suc j) lt = least_before g j (omega (arith, lt, least_on 0 g))
least_before g j lt = absurd (omega (arith, lt))

pub least_some : (g : List ℤ) → least_from 0 g < length g → entry g (least_from 0 g) ≢ pos 0
least_some [] lt e = omega (arith, lt)
least_some (pos zero ∷ g) lt e = least_some g (omega (arith, lt, least_on 0 g)) (ap (entry (pos zero ∷ g)) (sym (least_on 0 g)) ∙ e)
least_some g lt e = omega (arith, ints, e)

pub least_few : (g : List ℤ) → least_from 0 g ≤ length g
least_few (pos zero ∷ g) = omega (arith, least_few g, least_on 0 g)
least_few g = omega arith

-- the first place of a number that is not zero
pub least_is : (g : List ℤ) (k : ℕ) → entry g k ≢ pos 0 → ((j : ℕ) → j < k → entry g j ≡ pos 0) → least_from 0 g ≡ k
least_is g k some before = elim (lt_or (least_from 0 g) k) [
  | inl less ↦ elim (lt_or (least_from 0 g) (length g)) [
    | inl inside ↦ absurd (least_some g inside (before (least_from 0 g) less))
    | inr all ↦ absurd (some (past_end g k (omega (arith, less, all))))
  ]
  | inr ge ↦ elim (lt_or k (least_from 0 g)) [
    | inl more ↦ absurd (some (least_before g k more))
    | inr le ↦ omega (arith, ge, le)
  ]
]

-- a list of zeros
pub least_none : (g : List ℤ) → ((j : ℕ) → j < length g → entry g j ≡ pos 0) → least_from 0 g ≡ length g
least_none g zeros = elim (lt_or (least_from 0 g) (length g)) [
  | inl inside ↦ absurd (least_some g inside (zeros (least_from 0 g) inside))
  | inr all ↦ omega (arith, all, least_few g)
]

-- some number is not zero if and only if the first such is inside
pub nonzero_inside : (g : List ℤ) → IsNonzero g → least_from 0 g < length g
nonzero_inside g some = elim (lt_or (least_from 0 g) (length g)) [
  | inl inside ↦ inside
  | inr all ↦ absurd (elim (lt_or some.0 (least_from 0 g)) [
    | inl less ↦ some.1 (least_before g some.0 less)
    | inr ge ↦ some.1 (past_end g some.0 (omega (arith, all, ge)))
  ])
]

pub inside_nonzero : (g : List ℤ) → least_from 0 g < length g → IsNonzero g
inside_nonzero g inside = (least_from 0 g, least_some g inside)

pub leads_by : (g : List ℤ) → pos 1 ≤ℤ entry g (least_from 0 g) → LeadsPositive g
leads_by g one = (least_from 0 g, one, least_before g)

pub leads_at : (g : List ℤ) → LeadsPositive g → (least_from 0 g < length g) × (pos 1 ≤ℤ entry g (least_from 0 g))
leads_at g h =
    let is = least_is g h.0 (λ e. omega (arith, ints, e, h.1)) h.2 in (
      nonzero_inside g (h.0, λ e. omega (arith, ints, e, h.1)),
      subst (λ (k : ℕ). pos 1 ≤ℤ entry g k) (sym is) h.1,
    )

-- ---- the greatest common divisor

pub primitive_by : (g : List ℤ) (d : ℕ) → IsDivisor g d → d ≡ 1 → IsPrimitive g
primitive_by g d h one e each = eq-one_of_dvd-one (subst (λ (n : ℕ). e ∣ n) one (h.greatest e each))

pub by_primitive : (g : List ℤ) (d : ℕ) → IsDivisor g d → IsPrimitive g → d ≡ 1
by_primitive g d h p = p d h.divides
