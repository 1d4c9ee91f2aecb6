-- The last sign of a row that is not zero, and products with zero.
use Rattle.crn_conc.proofs.Prelude.{◌≡◌, ◌≢◌, ℕ, zero, suc, ◌+◌, ◌<◌, ◌≤◌, ◌⊎◌, inl, inr, List, [], ◌∷◌, length, drop, true, false, refl, sym, ap, subst, ◌∙◌, arith, get_or_past, Sign, Zero, Plus, Minus, all_zero, product, eq_or, lt_or, sign_at, IsLast}

pub product_zero : (x : Sign) → product x Zero ≡ Zero
product_zero Zero = refl
product_zero Plus = refl
product_zero Minus = refl

zero_all : (s : List Sign) (n : ℕ) → ((j : ℕ) → n ≤ j → sign_at s j ≡ Zero) → all_zero (drop n s) ≡ true
zero_all [] zero h = refl
zero_all [] (suc n) h = refl
zero_all (x ∷ s) zero h = ap (λ (y : Sign). all_zero (y ∷ s)) (h 0 (omega arith)) ∙ zero_all s 0 (λ j le. h (suc j) (omega arith))
zero_all (x ∷ s) (suc n) h = zero_all s n (λ j le. h (suc j) (omega (arith, le)))

some_first : (x : Sign) (s : List Sign) → x ≢ Zero → all_zero (x ∷ s) ≡ false
some_first Zero s ne = absurd (ne refl)
some_first Plus s ne = refl
some_first Minus s ne = refl

zero_or : (x : Sign) → (x ≡ Zero) ⊎ (x ≢ Zero)
zero_or Zero = inl refl
zero_or Plus = inr (λ e. cc)
zero_or Minus = inr (λ e. cc)

some_all : (s : List Sign) (n j : ℕ) → n ≤ j → sign_at s j ≢ Zero → all_zero (drop n s) ≡ false
some_all [] n j le ne = absurd (ne (get_or_past [] j Zero (omega arith)))
some_all (x ∷ s) zero zero le ne = some_first x s ne
some_all (x ∷ s) zero (suc j) le ne = elim (zero_or x) as (λ _. all_zero (x ∷ s) ≡ false) [
  | inl e ↦ ap (λ (y : Sign). all_zero (y ∷ s)) e ∙ some_all s 0 j (omega arith) ne
  | inr some ↦ some_first x s some
]
some_all (x ∷ s) (suc n) zero le ne = absurd (omega (arith, le))
some_all (x ∷ s) (suc n) (suc j) le ne = some_all s n j (omega (arith, le)) ne

-- the last sign that is not zero among the first k
pub record IsLastOf (s : List Sign) (k last : ℕ) : Type 0 where
  pub zeros : (j : ℕ) → last ≤ j → j < k → sign_at s j ≡ Zero
  pub some : (n : ℕ) → n < last → all_zero (drop n s) ≡ false

pub last_none : (s : List Sign) → IsLastOf s 0 0
last_none s = record { zeros = λ j le lt. absurd (omega (arith, lt)); some = λ n lt. absurd (omega (arith, lt)) }

pub last_here : (s : List Sign) (k : ℕ) → sign_at s k ≢ Zero → IsLastOf s (k + 1) (k + 1)
last_here s k ne = record { zeros = λ j le lt. absurd (omega (arith, le, lt)); some = λ n lt. some_all s n k (omega (arith, lt)) ne }

pub last_still : (s : List Sign) (k last : ℕ) → sign_at s k ≡ Zero → IsLastOf s k last → IsLastOf s (k + 1) last
last_still s k last z h = record {
  zeros = λ j le lt. elim (eq_or j k) as (λ _. sign_at s j ≡ Zero) [
    | inl e ↦ ap (sign_at s) e ∙ z
    | inr ne ↦ h.zeros j le (omega (arith, lt, ne))
  ];
  some = h.some;
}

pub last_more : (s : List Sign) (k last new : ℕ) → (sign_at s k ≡ Zero → new ≡ last) → (sign_at s k ≢ Zero → new ≡ k + 1) → IsLastOf s k last → IsLastOf s (k + 1) new
last_more s k last new nought some h = elim (zero_or (sign_at s k)) as (λ _. IsLastOf s (k + 1) new) [
  | inl e ↦ subst (IsLastOf s (k + 1)) (sym (nought e)) (last_still s k last e h)
  | inr ne ↦ subst (IsLastOf s (k + 1)) (sym (some ne)) (last_here s k ne)
]

pub last_of : (s : List Sign) (k last : ℕ) → length s ≤ k → IsLastOf s k last → IsLast s last
last_of s k last le h = record {
  after = λ n past. zero_all s n (λ j n_le. elim (lt_or j k) as (λ _. sign_at s j ≡ Zero) [
    | inl lt ↦ h.zeros j (omega (arith, past, n_le)) lt
    | inr out ↦ get_or_past s j Zero (omega (arith, out, le))
  ]);
  before = h.some;
}
