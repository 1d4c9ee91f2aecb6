-- For the contracts of private functions alone.
-- Names in buckets, and the sums of the numbers in each.
use Rattle.std.specs.Prelude.{◌≡◌, ◌<◌, ◌+◌, ◌*◌, ◌%◌, ◌^◌, ◌==◌, ◌≤◌, ℕ, if◌then◌else◌, List, [], ◌∷◌, length, slice_index}
use Rattle.std.specs.List.{sum_by}
use Rattle.crn_vec.specs.declared.limits.TheConstants.{MAX_AMOUNT}
use Rattle.crn_net.specs.declared.term.Term.{Term}
use Rattle.crn_net.specs.Terms.{name_at}

-- four bytes as digits of base 256
abbrev pub word : ℕ → ℕ → ℕ → ℕ → ℕ
word a b c d = ((a * 256 + b) * 256 + c) * 256 + d

-- a word as a digit of base 0x9e3779b97f4a7c15 after those of m, modulo 2^64
abbrev pub joined : ℕ → ℕ → ℕ
joined m w = (m * 11400714819323198485 % 2 ^ 64 + w) % 2 ^ 64

-- the bytes, four at a time, as digits after those of m
abbrev pub mark_after : ℕ → List ℕ → ℕ
mark_after m [] = m
mark_after m (a ∷ []) = joined m (word 0 0 0 a)
mark_after m (a ∷ b ∷ []) = joined m (word 0 0 a b)
mark_after m (a ∷ b ∷ c ∷ []) = joined m (word 0 a b c)
mark_after m (a ∷ b ∷ c ∷ d ∷ bs) = mark_after (joined m (word a b c d)) bs

-- the mark of a name, which begins with its length
abbrev pub mark : List ℕ → ℕ
mark name = mark_after (length name) name

-- the number of a term, if its name is in this one of this many buckets
abbrev pub in_bucket : List ℕ → ℕ → ℕ → Term → ℕ
in_bucket text size bucket t =
    if mark (name_at text t) % size == bucket then t.count else 0

-- the sums of the numbers by buckets, none of them above the limit of an amount
abbrev pub AreBucketSums : List ℕ → List Term → ℕ → List ℕ → Type 0
AreBucketSums text side size sums =
    (length sums ≡ size) × ((k : ℕ) → k < size → (slice_index sums k ≡ sum_by (in_bucket text size k) side) × (slice_index sums k ≤ MAX_AMOUNT))
