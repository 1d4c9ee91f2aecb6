-- Some answer is open if and only if a walk over the answers meets one, and so for verdicts alone.
use Rattle.crn_run.proofs.Prelude.{◌≡◌, ℕ, zero, suc, List, [], ◌∷◌, Some, None, take, map, length, inl, inr, sym, subst, ◌≤◌, slice_get, take_all, map-id, Verdict, IsOpen, some_is, HasOpen}

-- an open verdict at a place
pub open_at : {T : Type 0} (f : T → Verdict) (xs : List T) (i : ℕ) (a : T) → slice_get xs i ≡ Some a → IsOpen (f a) → HasOpen (map f xs)
open_at {T} f [] i a e o = absurd (let h : None ≡ Some a = e in cc)
open_at {T} f (x ∷ xs) zero a e o = inl (let h : x ≡ a = some_is x a e in subst (λ (y : T). IsOpen (f y)) (sym h) o)
open_at {T} f (x ∷ xs) (suc i) a e o = inr (open_at f xs i a e o)

-- none of the first is open, nor is the next
next_none : {T : Type 0} (f : T → Verdict) (xs : List T) (i : ℕ) (a : T) → slice_get xs i ≡ Some a → (IsOpen (f a) → ⊥) → (HasOpen (map f (take i xs)) → ⊥) → HasOpen (map f (take (suc i) xs)) → ⊥
next_none {T} f [] i a e none before o = let h : None ≡ Some a = e in cc
next_none {T} f (x ∷ xs) zero a e none before (inl o) = none (let h : x ≡ a = some_is x a e in subst (λ (y : T). IsOpen (f y)) h o)
next_none {T} f (x ∷ xs) zero a e none before (inr o) = before o
next_none {T} f (x ∷ xs) (suc i) a e none before (inl o) = before (inl o)
next_none {T} f (x ∷ xs) (suc i) a e none before (inr o) = next_none f xs i a e none (λ p. before (inr p)) o

pub none_more : {T : Type 0} (f : T → Verdict) (xs : List T) (i j n : ℕ) (a : T) → j ≡ i → n ≡ suc i → slice_get xs j ≡ Some a → (IsOpen (f a) → ⊥) → (HasOpen (map f (take i xs)) → ⊥) → HasOpen (map f (take n xs)) → ⊥
none_more {T} f xs i j n a is more e none before o =
    next_none f xs i a (subst (λ (k : ℕ). slice_get xs k ≡ Some a) is e) none before (subst (λ (k : ℕ). HasOpen (map f (take k xs))) more o)

-- none of all is open
pub none_at_all : {T : Type 0} (f : T → Verdict) (xs : List T) (n : ℕ) → length xs ≤ n → (HasOpen (map f (take n xs)) → ⊥) → HasOpen (map f xs) → ⊥
none_at_all {T} f xs n le none o = none (subst (λ (ys : List T). HasOpen (map f ys)) (sym (take_all n xs le)) o)

-- ---- verdicts alone

pub verdict_at : (vs : List Verdict) (i : ℕ) (v : Verdict) → slice_get vs i ≡ Some v → IsOpen v → HasOpen vs
verdict_at vs i v e o = subst HasOpen (map-id vs) (open_at (λ (x : Verdict). x) vs i v e o)

pub no_more_verdicts : (vs : List Verdict) (i j n : ℕ) (v : Verdict) → j ≡ i → n ≡ suc i → slice_get vs j ≡ Some v → (IsOpen v → ⊥) → (HasOpen (take i vs) → ⊥) → HasOpen (take n vs) → ⊥
no_more_verdicts vs i j n v is more e none before o =
    none_more (λ (x : Verdict). x) vs i j n v is more e none (λ p. before (subst HasOpen (map-id (take i vs)) p)) (subst HasOpen (sym (map-id (take n vs))) o)

pub no_verdict : (vs : List Verdict) (n : ℕ) → length vs ≤ n → (HasOpen (take n vs) → ⊥) → HasOpen vs → ⊥
no_verdict vs n le none o = none (subst HasOpen (sym (take_all n vs le)) o)
