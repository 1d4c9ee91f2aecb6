-- The kinds of the rows at a prefix, place by place, and the signs of numbers.
use Rattle.crn_vec.proofs.Prelude.{◌≡◌, ℕ, zero, suc, ◌+◌, ◌<◌, ◌≤◌, inl, inr, List, [], ◌∷◌, length, get_or, refl, sym, ap, ◌∙◌, arith, slice_set, ℤ, pos, negsuc, ints, ext_get_or, get_or-set_same, get_or-set_other, Sign, Zero, Plus, Minus, Kind, Free, HasSign, kind_at, sign, kind_of_sign, row_kinds}
use Rattle.crn_vec.proofs.Entries.{eq_or}
use Rattle.crn_vec.proofs.TableKinds.{length-rows}

-- the row of a species that is chosen
pub row_chosen : (n s : ℕ) (p : List Sign) → s < n → s < length p → kind_of_sign (get_or p s Zero) ≡ kind_at (row_kinds n p) s
row_chosen zero s p h g = absurd (omega (arith, h))
row_chosen (suc n) s [] h g = absurd (omega (arith, g))
row_chosen (suc n) zero (t ∷ p) h g = refl
row_chosen (suc n) (suc s) (t ∷ p) h g = row_chosen n s p (omega (arith, h)) (omega (arith, g))

-- the row of a species that is not
pub row_open : (n s : ℕ) (p : List Sign) → s < n → length p ≤ s → Free ≡ kind_at (row_kinds n p) s
row_open zero s p h g = absurd (omega (arith, h))
row_open (suc n) zero [] h g = refl
row_open (suc n) (suc s) [] h g = row_open n s [] (omega (arith, h)) (omega arith)
row_open (suc n) zero (t ∷ p) h g = absurd (omega (arith, g))
row_open (suc n) (suc s) (t ∷ p) h g = row_open n s p (omega (arith, h)) (omega (arith, g))

-- the rows of a prefix, given place by place
pub rows_are : (n : ℕ) (p : List Sign) (ks : List Kind) → length ks ≡ n → ((j : ℕ) → j < n → get_or ks j Free ≡ kind_at (row_kinds n p) j) → ks ≡ row_kinds n p
rows_are n p ks long each = ext_get_or Free ks (row_kinds n p) (long ∙ sym (length-rows n p)) (λ j lt. each j (omega (arith, lt, long)))

-- a list that is kinds_more place by place
pub kinds_more : (f : ℕ → Kind) (ks : List Kind) (i : ℕ) (κ : Kind) → i < length ks → ((j : ℕ) → j < i → get_or ks j Free ≡ f j) → κ ≡ f i → (j : ℕ) → j < i + 1 → get_or (slice_set ks i κ) j Free ≡ f j
kinds_more f ks i κ lt h e j l = elim (eq_or j i) as (λ _. get_or (slice_set ks i κ) j Free ≡ f j) [
  | inl same ↦ ap (λ (k : ℕ). get_or (slice_set ks i κ) k Free) same ∙ get_or-set_same ks i κ Free lt ∙ e ∙ ap f (sym same)
  | inr ne ↦ get_or-set_other ks i j κ Free ne ∙ h j (omega (arith, l, ne))
]

-- the sign of a number
pub sign_is : (s : Sign) (x : ℤ) → HasSign s x → s ≡ sign x
sign_is Zero (pos zero) h = refl
sign_is Zero (pos (suc n)) h = absurd (omega (arith, ints, h))
sign_is Zero (negsuc n) h = absurd (omega (arith, ints, h))
sign_is Plus (pos zero) h = absurd (omega (arith, ints, h))
sign_is Plus (pos (suc n)) h = refl
sign_is Plus (negsuc n) h = absurd (omega (arith, ints, h))
sign_is Minus (pos zero) h = absurd (omega (arith, ints, h))
sign_is Minus (pos (suc n)) h = absurd (omega (arith, ints, h))
sign_is Minus (negsuc n) h = refl
