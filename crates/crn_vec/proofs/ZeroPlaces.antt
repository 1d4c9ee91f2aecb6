-- Places that are skipped add nothing to a sum of products, and bounds of lists of numbers in which places are set.
use Rattle.crn_vec.proofs.Prelude.{◌≡◌, ℕ, zero, suc, ◌+◌, ◌-◌, ◌<◌, ◌≤◌, ◌⊎◌, inl, inr, List, [], ◌∷◌, length, take, refl, sym, ap, ◌∙◌, arith, ℤ, pos, ◌+ℤ◌, ◌*ℤ◌, slice_index, unsigned_abs, AreSkips, AreWithin, dot, entry}
use Rattle.std.specs.Prelude.{replicate, slice_set}
use lib.IntN.{*ℤ-zero, zero-*ℤ}
use Rattle.crn_vec.proofs.Entries.{dot_step}
use Rattle.crn_vec.proofs.Ring.{plus_none, zero_times}

skip_by : (a b : List ℤ) (k d : ℕ) → length b ≡ length a → k + d ≤ length a → ((i : ℕ) → k ≤ i → i < k + d → entry a i *ℤ entry b i ≡ pos 0) → dot (take (k + d) a) (take (k + d) b) ≡ dot (take k a) (take k b)
skip_by a b k zero same few none = let e : k + 0 ≡ k = omega arith in ap (λ (n : ℕ). dot (take n a) (take n b)) e
skip_by a b k (suc d) same few none =
    let e : k + suc d ≡ k + d + 1 = omega arith in
    let sum = dot (take (k + d) a) (take (k + d) b) in
    ap (λ (n : ℕ). dot (take n a) (take n b)) e
    ∙ dot_step a b (k + d) (omega (arith, few)) (omega (arith, same, few))
    ∙ ap (λ (x : ℤ). sum +ℤ x) (none (k + d) (omega arith) (omega arith)) ∙ plus_none sum
    ∙ skip_by a b k d same (omega (arith, few)) (λ i le lt. none i le (omega (arith, lt)))

-- the products so far, if each of them is zero from one place to another
pub dot_skip : (a b : List ℤ) (k n : ℕ) → length b ≡ length a → k ≤ n → n ≤ length a → ((i : ℕ) → k ≤ i → i < n → entry a i *ℤ entry b i ≡ pos 0) → dot (take n a) (take n b) ≡ dot (take k a) (take k b)
dot_skip a b k n same le few none =
    let e : k + (n - k) ≡ n = omega (arith, le) in
    ap (λ (m : ℕ). dot (take m a) (take m b)) (omega (arith, le))
    ∙ skip_by a b k (n - k) same (omega (arith, e, few)) (λ i from lt. none i from (omega (arith, e, lt)))

-- what is skipped of two lists, at least one of which is zero there
pub record Skipped (a b : List ℤ) (k next : ℕ) : Type 0 where
  pub after : k ≤ next
  pub inside : next ≤ length a
  pub same : dot (take next a) (take next b) ≡ dot (take k a) (take k b)

pub skipped : (a b : List ℤ) (skips : List ℕ) → length b ≡ length a → AreSkips a skips ⊎ AreSkips b skips → (k : ℕ) → k ≤ length a → Skipped a b k (slice_index skips k)
skipped a b skips same (inl h) k le =
    let s = h.each k le in
    record {
      after = s.after;
      inside = s.inside;
      same = dot_skip a b k (slice_index skips k) same s.after s.inside (λ i from lt. zero_times (entry a i) (entry b i) (s.zero i from lt));
    }
skipped a b skips same (inr h) k le =
    let s = h.each k (omega (arith, le, same)) in
    let inside : slice_index skips k ≤ length a = omega (arith, s.inside, same) in
    record {
      after = s.after;
      inside = inside;
      same = dot_skip a b k (slice_index skips k) same s.after inside (λ i from lt. ap (λ (x : ℤ). entry a i *ℤ x) (s.zero i from lt) ∙ *ℤ-zero (entry a i));
    }

-- a multiple of a zero adds nothing, and neither does the multiple zero
pub zero_adds : (x n y : ℤ) → y ≡ pos 0 → x ≡ x +ℤ (n *ℤ y)
zero_adds x n y e = sym (ap (λ (z : ℤ). x +ℤ (n *ℤ z)) e ∙ ap (λ (z : ℤ). x +ℤ z) (*ℤ-zero n) ∙ plus_none x)

pub nought_adds : (x n y : ℤ) → n ≡ pos 0 → x ≡ x +ℤ (n *ℤ y)
nought_adds x n y e = sym (ap (λ (z : ℤ). x +ℤ (z *ℤ y)) e ∙ ap (λ (z : ℤ). x +ℤ z) (zero-*ℤ y) ∙ plus_none x)

-- ---- bounds

pub within_more : (m n : ℕ) (xs : List ℤ) → m ≤ n → AreWithin m xs → AreWithin n xs
within_more m n [] le h = tt
within_more m n (x ∷ xs) le h = (omega (arith, le, h.0), within_more m n xs le h.1)

pub within_set : (m k : ℕ) (xs : List ℤ) (x : ℤ) → AreWithin m xs → unsigned_abs x ≤ m → AreWithin m (slice_set xs k x)
within_set m k [] x h small = tt
within_set m zero (y ∷ ys) x h small = (small, h.1)
within_set m (suc k) (y ∷ ys) x h small = (h.0, within_set m k ys x h.1 small)

pub entry_of_zeros : (n s : ℕ) → entry (replicate n (pos 0)) s ≡ pos 0
entry_of_zeros zero s = refl
entry_of_zeros (suc n) zero = refl
entry_of_zeros (suc n) (suc s) = entry_of_zeros n s

pub zeros_within : (m n : ℕ) → AreWithin m (replicate n (pos 0))
zeros_within m zero = tt
zeros_within m (suc n) = (omega arith, zeros_within m n)
