-- Slots and coordinates.
use Rattle.crn_tab.proofs.Prelude.{◌≡◌, ◌≢◌, ℕ, zero, suc, ◌+◌, ◌<◌, ◌≤◌, ◌⊎◌, inl, inr, List, [], ◌∷◌, length, map, take, ◌++◌, add-one, refl, ap, subst, ◌∙◌, arith, Bool, true, false, nat_lt, nat_eq, ℤ, pos, slice_index, nat_tests, append-nil, entry, IsIn, IsAbove, IsAscending, eq_or, choose, slot_entry, spread, basis_from, basis_of}

pub isIn_or : (k : ℕ) (xs : List ℕ) → IsIn k xs ⊎ (¬ IsIn k xs)
isIn_or k [] = inr (λ h. h)
isIn_or k (x ∷ xs) = elim (eq_or k x) [
  | inl e ↦ inl (inl e)
  | inr ne ↦ elim (isIn_or k xs) [ inl h ↦ inl (inr h) | inr no_more ↦ inr (λ h. elim h [ inl e ↦ ne e | inr g ↦ no_more g ]) ]
]

pub lt_true : (s n : ℕ) → s < n → nat_lt s n ≡ true
lt_true s n h = grind (arith, nat_tests)

pub lt_false : (s n : ℕ) → n ≤ s → nat_lt s n ≡ false
lt_false s n h = grind (arith, nat_tests)

pub eq_true : (s n : ℕ) → s ≡ n → nat_eq s n ≡ true
eq_true s n h = grind (arith, nat_tests)

pub eq_false : (s n : ℕ) → s ≢ n → nat_eq s n ≡ false
eq_false s n h = grind (arith, nat_tests)

pub below_from : (s n : ℕ) → nat_lt s n ≡ true → s < n
below_from s n h = grind (arith, nat_tests)

pub slot_basic : (n i : ℕ) (row : List ℤ) (s : ℕ) → s < n → slot_entry n i row s ≡ entry row s
slot_basic n i row s h = ap (λ b. choose b (entry row s) (choose (nat_eq s (n + i)) (entry row n) (pos 0))) (lt_true s n h)

pub slot_own : (n i : ℕ) (row : List ℤ) (s : ℕ) → s ≡ n + i → slot_entry n i row s ≡ entry row n
slot_own n i row s h = ap (λ b. choose b (entry row s) (choose (nat_eq s (n + i)) (entry row n) (pos 0))) (lt_false s n (omega arith))
    ∙ ap (λ b. choose b (entry row n) (pos 0)) (eq_true s (n + i) h)

pub slot_none : (n i : ℕ) (row : List ℤ) (s : ℕ) → n ≤ s → s ≢ n + i → slot_entry n i row s ≡ pos 0
slot_none n i row s h ne = ap (λ b. choose b (entry row s) (choose (nat_eq s (n + i)) (entry row n) (pos 0))) (lt_false s n h)
    ∙ ap (λ b. choose b (entry row n) (pos 0)) (eq_false s (n + i) ne)

pub length-spread : (n i : ℕ) (row : List ℤ) (at : List ℕ) → length (spread n i row at) ≡ length at
length-spread n i row [] = refl
length-spread n i row (s ∷ at) = omega (arith, length-spread n i row at)

pub entry-spread : (n i : ℕ) (row : List ℤ) (at : List ℕ) (k : ℕ) → k < length at → entry (spread n i row at) k ≡ slot_entry n i row (slice_index at k)
entry-spread n i row [] k h = absurd (omega arith)
entry-spread n i row (s ∷ at) zero h = refl
entry-spread n i row (s ∷ at) (suc k) h = entry-spread n i row at k (omega arith)

basis_keeps : (b : Bool) (j k n : ℕ) (at : List ℕ) → IsIn (j + suc k) (basis_from (suc j) n at) → IsIn (j + suc k) (choose b (j ∷ basis_from (suc j) n at) (basis_from (suc j) n at))
basis_keeps true j k n at h = inr h
basis_keeps false j k n at h = h

-- the members of the basis
pub basis_has : (j n : ℕ) (at : List ℕ) (k : ℕ) → k < length at → slice_index at k < n → IsIn (j + k) (basis_from j n at)
basis_has j n [] k h lt = absurd (omega arith)
basis_has j n (s ∷ at) zero h lt = rw (lt_true s n lt) (inl (omega arith))
basis_has j n (s ∷ at) (suc k) h lt = basis_keeps (nat_lt s n) j k n at (let I : ℕ → Type 0 = λ c. IsIn c (basis_from (suc j) n at) in
    let e : suc j + k ≡ j + suc k = omega arith in subst I e (basis_has (suc j) n at k (omega arith) lt))

pub record Member (j n : ℕ) (at : List ℕ) (c : ℕ) : Type 0 where
  pub place : ℕ
  pub is : c ≡ j + place
  pub inside : place < length at
  pub basic : slice_index at place < n

later : (j n s : ℕ) (at : List ℕ) (c : ℕ) → Member (suc j) n at c → Member j n (s ∷ at) c
later j n s at c m = record { place = suc m.place; is = omega (arith, m.is); inside = omega (arith, m.inside); basic = m.basic }

basis_first : (b : Bool) (j n s : ℕ) (at : List ℕ) (c : ℕ) → nat_lt s n ≡ b → (IsIn c (basis_from (suc j) n at) → Member (suc j) n at c)
    → IsIn c (choose b (j ∷ basis_from (suc j) n at) (basis_from (suc j) n at)) → Member j n (s ∷ at) c
basis_first true j n s at c e f (inl h) = record { place = 0; is = omega arith; inside = omega arith; basic = below_from s n e }
basis_first true j n s at c e f (inr h) = later j n s at c (f h)
basis_first false j n s at c e f h = later j n s at c (f h)

pub basis_only : (j n : ℕ) (at : List ℕ) (c : ℕ) → IsIn c (basis_from j n at) → Member j n at c
basis_only j n [] c h = absurd h
basis_only j n (s ∷ at) c h = basis_first (nat_lt s n) j n s at c refl (basis_only (suc j) n at c) h

above_step : (b : Bool) (m j : ℕ) (rest : List ℕ) → m < j → IsAbove j rest → IsAbove m rest → IsAbove m (choose b (j ∷ rest) rest)
above_step true m j rest lt g h = (lt, g)
above_step false m j rest lt g h = h

pub basis_above : (m j n : ℕ) (at : List ℕ) → m < j → IsAbove m (basis_from j n at)
basis_above m j n [] h = tt
basis_above m j n (s ∷ at) h = above_step (nat_lt s n) m j (basis_from (suc j) n at) h (basis_above j (suc j) n at (omega arith)) (basis_above m (suc j) n at (omega arith))

ascending_step : (b : Bool) (j : ℕ) (rest : List ℕ) → IsAbove j rest → IsAscending rest → IsAscending (choose b (j ∷ rest) rest)
ascending_step true j rest g h = g
ascending_step false j rest g h = h

pub basis_ascending : (j n : ℕ) (at : List ℕ) → IsAscending (basis_from j n at)
basis_ascending j n [] = tt
basis_ascending j n (s ∷ at) = ascending_step (nat_lt s n) j (basis_from (suc j) n at) (basis_above j (suc j) n at (omega arith)) (basis_ascending (suc j) n at)

pub in_basis : (n : ℕ) (at : List ℕ) (k : ℕ) → k < length at → slice_index at k < n → IsIn k (basis_of n at)
in_basis n at k h lt = let I : ℕ → Type 0 = λ c. IsIn c (basis_of n at) in let e : 0 + k ≡ k = omega arith in subst I e (basis_has 0 n at k h lt)

spread_suc : (f : ℕ → ℤ) (at : List ℕ) (k : ℕ) → k < length at → map f (take (suc k) at) ≡ map f (take k at) ++ (f (slice_index at k) ∷ [])
spread_suc f [] k h = absurd (omega arith)
spread_suc f (s ∷ at) zero h = refl
spread_suc f (s ∷ at) (suc k) h = ap (λ (v : List ℤ). f s ∷ v) (spread_suc f at k (omega arith))

pub spread_step : (f : ℕ → ℤ) (at : List ℕ) (k : ℕ) → k < length at → map f (take (k + 1) at) ≡ map f (take k at) ++ (f (slice_index at k) ∷ [])
spread_step f at k h = rw add-one (spread_suc f at k h)

basis_more : (b : Bool) (j : ℕ) (long short more : List ℕ) → long ≡ short ++ more → choose b (j ∷ long) long ≡ choose b (j ∷ short) short ++ more
basis_more true j long short more e = ap (λ (v : List ℕ). j ∷ v) e
basis_more false j long short more e = e

basis_suc : (j n : ℕ) (at : List ℕ) (k : ℕ) → k < length at → basis_from j n (take (suc k) at) ≡ basis_from j n (take k at) ++ choose (nat_lt (slice_index at k) n) ((j + k) ∷ []) []
basis_suc j n [] k h = absurd (omega arith)
basis_suc j n (s ∷ at) zero h = ap (λ i. choose (nat_lt s n) (i ∷ []) []) (let e : j ≡ j + 0 = omega arith in e)
basis_suc j n (s ∷ at) (suc k) h =
    let rest : basis_from (suc j) n (take (suc k) at) ≡ basis_from (suc j) n (take k at) ++ choose (nat_lt (slice_index at k) n) ((j + suc k) ∷ []) [] =
    basis_suc (suc j) n at k (omega arith) ∙ ap (λ i. basis_from (suc j) n (take k at) ++ choose (nat_lt (slice_index at k) n) (i ∷ []) []) (let e : suc j + k ≡ j + suc k = omega arith in e) in
    basis_more (nat_lt s n) j (basis_from (suc j) n (take (suc k) at)) (basis_from (suc j) n (take k at)) (choose (nat_lt (slice_index at k) n) ((j + suc k) ∷ []) []) rest

-- one more coordinate joins the basis if its slot is below n
pub basis_joins : (n : ℕ) (at : List ℕ) (k : ℕ) → k < length at → slice_index at k < n → basis_of n (take (k + 1) at) ≡ basis_of n (take k at) ++ (k ∷ [])
basis_joins n at k h lt = rw add-one (basis_suc 0 n at k h ∙ ap (λ b. basis_of n (take k at) ++ choose b ((0 + k) ∷ []) []) (lt_true (slice_index at k) n lt)
    ∙ ap (λ i. basis_of n (take k at) ++ (i ∷ [])) (let e : 0 + k ≡ k = omega arith in e))

pub basis_stays : (n : ℕ) (at : List ℕ) (k : ℕ) → k < length at → n ≤ slice_index at k → basis_of n (take (k + 1) at) ≡ basis_of n (take k at)
basis_stays n at k h le = rw add-one (basis_suc 0 n at k h ∙ ap (λ b. basis_of n (take k at) ++ choose b ((0 + k) ∷ []) []) (lt_false (slice_index at k) n le) ∙ append-nil (basis_of n (take k at)))
