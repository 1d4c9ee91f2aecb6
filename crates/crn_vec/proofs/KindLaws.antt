-- What a kind requires of a coordinate in a solution and in a cut: signs of products, and what follows from a
-- negative product.
use Rattle.crn_vec.proofs.Prelude.{◌≡◌, ◌≢◌, ℕ, ◌⊎◌, inl, inr, arith, List, ap, refl, suc, zero, ℤ, pos, negsuc, ◌+ℤ◌, ◌*ℤ◌, ◌≤ℤ◌, ◌<ℤ◌, ints, false≢true, Kind, Pos, Neg, NonNeg, Free, entry, dot, HasKind, MayTake, MayWeigh, is_signed}
use Rattle.std.specs.Prelude.{true}
use Rattle.crn_vec.specs.declared.signs.Kind.TheVariants.{Zero}
use lib.IntN.{*ℤ_comm, *ℤ-zero, zero-*ℤ}
use Rattle.crn_vec.proofs.Entries.{eq_or}
use Rattle.crn_vec.proofs.Orthogonal.{part, negative_at}

pub up_up : (a b : ℤ) → pos 0 ≤ℤ a → pos 0 ≤ℤ b → pos 0 ≤ℤ (a *ℤ b)
up_up (pos a) (pos b) h k = omega (arith, ints)
up_up (pos a) (negsuc b) h k = absurd (omega (arith, ints))
up_up (negsuc a) b h k = absurd (omega (arith, ints))

pub down_down : (a b : ℤ) → a ≤ℤ pos 0 → b ≤ℤ pos 0 → pos 0 ≤ℤ (a *ℤ b)
down_down (pos zero) b h k = omega (arith, ints, zero-*ℤ b)
down_down (pos (suc a)) b h k = absurd (omega (arith, ints))
down_down (negsuc a) (pos zero) h k = omega (arith, ints, *ℤ-zero (negsuc a))
down_down (negsuc a) (pos (suc b)) h k = absurd (omega (arith, ints))
down_down (negsuc a) (negsuc b) h k = omega (arith, ints)

-- right on both sides: the product is at least 0
pub agree : (κ : Kind) (w v : ℤ) → MayWeigh κ w → MayTake κ v → pos 0 ≤ℤ (w *ℤ v)
agree Pos w v h k = up_up w v h k
agree Neg w v h k = down_down w v h k
agree NonNeg w v h k = up_up w v h k
agree Zero w v h k = let e : w *ℤ v ≡ w *ℤ pos 0 = ap (λ t. w *ℤ t) k in omega (arith, ints, e, *ℤ-zero w)
agree Free w v h k = let e : w *ℤ v ≡ pos 0 *ℤ v = ap (λ t. t *ℤ v) h in omega (arith, ints, e, zero-*ℤ v)

-- opposite signs, from one side being on the wrong one
pub positive_by : (w v : ℤ) → (w *ℤ v) <ℤ pos 0 → ¬ (pos 0 ≤ℤ v) → pos 0 ≤ℤ w
positive_by (pos w) v m h = omega (arith, ints)
positive_by (negsuc w) (pos v) m h = absurd (h (omega (arith, ints)))
positive_by (negsuc w) (negsuc v) m h = absurd (omega (arith, ints, m))

pub negative_by : (w v : ℤ) → (w *ℤ v) <ℤ pos 0 → ¬ (v ≤ℤ pos 0) → w ≤ℤ pos 0
negative_by (negsuc w) v m h = omega (arith, ints)
negative_by (pos w) (negsuc v) m h = absurd (h (omega (arith, ints)))
negative_by (pos w) (pos v) m h = absurd (omega (arith, ints, m))

pub dual_after : (κ : Kind) (w v : ℤ) → (w *ℤ v) <ℤ pos 0 → ¬ (MayTake κ v) → MayWeigh κ w
dual_after Pos w v m h = positive_by w v m h
dual_after Neg w v m h = negative_by w v m h
dual_after NonNeg w v m h = positive_by w v m h
dual_after Zero w v m h = tt
dual_after Free w v m h = absurd (h tt)

pub row_after : (κ : Kind) (w v : ℤ) → (w *ℤ v) <ℤ pos 0 → ¬ (MayWeigh κ w) → MayTake κ v
row_after Pos w v m h = positive_by v w (omega (arith, ints, m, *ℤ_comm w v)) h
row_after Neg w v m h = negative_by v w (omega (arith, ints, m, *ℤ_comm w v)) h
row_after NonNeg w v m h = positive_by v w (omega (arith, ints, m, *ℤ_comm w v)) h
row_after Zero w v m h = absurd (h tt)
row_after Free w v m h = tt

-- what one coordinate other than c gives: right on both sides, or a zero on one
abbrev pub Quiet : Kind → ℤ → ℤ → Type 0
Quiet κ w v = (MayWeigh κ w × MayTake κ v) ⊎ ((w ≡ pos 0) ⊎ (v ≡ pos 0))

pub quiet_part : (κ : Kind) (w v : ℤ) → Quiet κ w v → pos 0 ≤ℤ (w *ℤ v)
quiet_part κ w v (inl h) = agree κ w v h.0 h.1
quiet_part κ w v (inr (inl h)) = let e : w *ℤ v ≡ pos 0 *ℤ v = ap (λ t. t *ℤ v) h in omega (arith, ints, e, zero-*ℤ v)
quiet_part κ w v (inr (inr h)) = let e : w *ℤ v ≡ w *ℤ pos 0 = ap (λ t. w *ℤ t) h in omega (arith, ints, e, *ℤ-zero w)

pub at_each : (κ : ℕ → Kind) (w v : List ℤ) (c g : ℕ) → pos 0 <ℤ part w v g
    → ((i : ℕ) → ¬ (i ≡ c) → ¬ (i ≡ g) → Quiet (κ i) (entry w i) (entry v i))
    → (i : ℕ) → ¬ (i ≡ c) → pos 0 ≤ℤ part w v i
at_each κ w v c g p q i n = elim (eq_or i g) as (λ _. pos 0 ≤ℤ part w v i) [
  | inl e ↦ let f : part w v i ≡ part w v g = ap (λ t. part w v t) e in omega (arith, ints, f, p)
  | inr m ↦ quiet_part (κ i) (entry w i) (entry v i) (q i n m)
]

pub settled_dual : (κ : ℕ → Kind) (w v : List ℤ) (c g : ℕ) → ¬ (c ≡ g) → dot w v ≡ pos 0 → pos 0 <ℤ part w v g
    → ((i : ℕ) → ¬ (i ≡ c) → ¬ (i ≡ g) → Quiet (κ i) (entry w i) (entry v i))
    → ¬ (MayTake (κ c) (entry v c)) → MayWeigh (κ c) (entry w c)
settled_dual κ w v c g n e p q h =
    let all : (i : ℕ) → ¬ (i ≡ c) → pos 0 ≤ℤ part w v i = at_each κ w v c g p q in
    dual_after (κ c) (entry w c) (entry v c) (negative_at w v c g n e p all) h

pub settled_row : (κ : ℕ → Kind) (w v : List ℤ) (c g : ℕ) → ¬ (c ≡ g) → dot w v ≡ pos 0 → pos 0 <ℤ part w v g
    → ((i : ℕ) → ¬ (i ≡ c) → ¬ (i ≡ g) → Quiet (κ i) (entry w i) (entry v i))
    → ¬ (MayWeigh (κ c) (entry w c)) → MayTake (κ c) (entry v c)
settled_row κ w v c g n e p q h =
    let all : (i : ℕ) → ¬ (i ≡ c) → pos 0 ≤ℤ part w v i = at_each κ w v c g p q in
    row_after (κ c) (entry w c) (entry v c) (negative_at w v c g n e p all) h

pub take_zero : (κ : Kind) → MayTake κ (pos 0)
take_zero Pos = omega (arith, ints)
take_zero Neg = omega (arith, ints)
take_zero NonNeg = omega (arith, ints)
take_zero Zero = refl
take_zero Free = tt

pub weigh_zero : (κ : Kind) → MayWeigh κ (pos 0)
weigh_zero Pos = omega (arith, ints)
weigh_zero Neg = omega (arith, ints)
weigh_zero NonNeg = omega (arith, ints)
weigh_zero Zero = tt
weigh_zero Free = refl

-- a number of a kind is one that a solution may take, and not 0 if the kind is signed
pub kind_takes : (κ : Kind) (x : ℤ) → HasKind κ x → MayTake κ x
kind_takes Pos x h = omega (arith, ints, h)
kind_takes Neg x h = omega (arith, ints, h)
kind_takes NonNeg x h = h
kind_takes Zero x h = h
kind_takes Free x h = tt

pub kind_from : (κ : Kind) (x : ℤ) → MayTake κ x → (is_signed κ ≡ true → x ≢ pos 0) → HasKind κ x
kind_from Pos (pos zero) h s = absurd (s refl refl)
kind_from Pos (pos (suc n)) h s = omega (arith, ints)
kind_from Pos (negsuc n) h s = absurd (omega (arith, ints, h))
kind_from Neg (pos zero) h s = absurd (s refl refl)
kind_from Neg (pos (suc n)) h s = absurd (omega (arith, ints, h))
kind_from Neg (negsuc n) h s = omega (arith, ints)
kind_from NonNeg x h s = h
kind_from Zero x h s = h
kind_from Free x h s = tt

-- a sum of numbers that a solution may take is one
pub take_sum : (κ : Kind) (x y : ℤ) → MayTake κ x → MayTake κ y → MayTake κ (x +ℤ y)
take_sum Pos x y h k = omega (arith, ints, h, k)
take_sum Neg x y h k = omega (arith, ints, h, k)
take_sum NonNeg x y h k = omega (arith, ints, h, k)
take_sum Zero x y h k = omega (arith, ints, h, k)
take_sum Free x y h k = tt

-- and not 0 at a signed kind if one of the two is not
pub sum_some : (κ : Kind) (x y : ℤ) → is_signed κ ≡ true → MayTake κ x → MayTake κ y → (x ≢ pos 0) ⊎ (y ≢ pos 0) → x +ℤ y ≢ pos 0
sum_some Pos x y s h k (inl n) = λ e. n (omega (arith, ints, h, k, e))
sum_some Pos x y s h k (inr n) = λ e. n (omega (arith, ints, h, k, e))
sum_some Neg x y s h k (inl n) = λ e. n (omega (arith, ints, h, k, e))
sum_some Neg x y s h k (inr n) = λ e. n (omega (arith, ints, h, k, e))
sum_some NonNeg x y s h k o = absurd (false≢true s)
sum_some Zero x y s h k o = absurd (false≢true s)
sum_some Free x y s h k o = absurd (false≢true s)

-- the product of two nonzero numbers at a signed coordinate
pub product_some : (κ : Kind) (w v : ℤ) → is_signed κ ≡ true → MayWeigh κ w → w ≢ pos 0 → HasKind κ v → pos 0 <ℤ (w *ℤ v)
product_some Pos (pos zero) v s h n k = absurd (n refl)
product_some Pos (pos (suc w)) (pos zero) s h n k = absurd (omega (arith, ints, k))
product_some Pos (pos (suc w)) (pos (suc v)) s h n k = omega (arith, ints)
product_some Pos (pos (suc w)) (negsuc v) s h n k = absurd (omega (arith, ints, k))
product_some Pos (negsuc w) v s h n k = absurd (omega (arith, ints, h))
product_some Neg (pos zero) v s h n k = absurd (n refl)
product_some Neg (pos (suc w)) v s h n k = absurd (omega (arith, ints, h))
product_some Neg (negsuc w) (pos v) s h n k = absurd (omega (arith, ints, k))
product_some Neg (negsuc w) (negsuc v) s h n k = omega (arith, ints)
product_some NonNeg w v s h n k = absurd (false≢true s)
product_some Zero w v s h n k = absurd (false≢true s)
product_some Free w v s h n k = absurd (false≢true s)

-- a number of a signed kind may be weighed too
pub kind_weighs : (κ : Kind) (x : ℤ) → is_signed κ ≡ true → HasKind κ x → MayWeigh κ x
kind_weighs Pos x s h = omega (arith, ints, h)
kind_weighs Neg x s h = omega (arith, ints, h)
kind_weighs NonNeg x s h = absurd (false≢true s)
kind_weighs Zero x s h = absurd (false≢true s)
kind_weighs Free x s h = absurd (false≢true s)
