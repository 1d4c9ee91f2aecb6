-- Sums of numbers by buckets of names.
use Rattle.crn_net.proofs.Prelude.{[], ◌∷◌, length, get_or, drop, refl, ◌≡◌, ℕ, ◌%◌, ◌<◌, ◌≤◌, ◌==◌, true, cond, List, ap, inl, inr, arith, bytes_eq, cases_Bool, eq-eqb, sum_by-le-sum_by, bytes_eq-Decides, amount_in, MAX_AMOUNT, Term, name_at, side_of, mark, in_bucket, AreBucketSums, word, joined, mark_after}
use native.Mathlib.Nat.{mod-lt}
use Rattle.crn_net.proofs.Members.{amount_is}

-- the mark goes on with the first four bytes, and then with the rest
pub mark_word : (m : ℕ) (bytes : List ℕ) → 4 ≤ length bytes → mark_after m bytes ≡ mark_after (joined m (word (get_or bytes 0 0) (get_or bytes 1 0) (get_or bytes 2 0) (get_or bytes 3 0))) (drop 4 bytes)
mark_word m [] h = absurd (omega arith)
mark_word m (a ∷ []) h = absurd (omega arith)
mark_word m (a ∷ b ∷ []) h = absurd (omega arith)
mark_word m (a ∷ b ∷ c ∷ []) h = absurd (omega arith)
mark_word m (a ∷ b ∷ c ∷ d ∷ bytes) h = refl

-- a term of the name is in the bucket of the name
in_its_bucket : (text name : List ℕ) (size : ℕ) (t : Term) → cond (bytes_eq (name_at text t) name) t.count 0 ≤ in_bucket text size (mark name % size) t
in_its_bucket text name size t = elim (cases_Bool (bytes_eq (name_at text t) name)) [
  | inl hit ↦
      let same : name_at text t ≡ name = (bytes_eq-Decides (name_at text t) name).0 hit in
      let test : ((mark (name_at text t) % size) == (mark name % size)) ≡ true = eq-eqb _ _ (ap (λ (n : List ℕ). mark n % size) same) in
      rw (hit, test) (omega arith)
  | inr miss ↦ rw miss (omega arith)
]

-- if the sum of each bucket is within the limit, so is that of each name
pub fit_by_buckets : (text : List ℕ) (side : List Term) (size : ℕ) (sums : List ℕ) → 1 ≤ size → AreBucketSums text side size sums → (name : List ℕ) → amount_in (side_of text side) name ≤ MAX_AMOUNT
fit_by_buckets text side size sums some are name =
    let k = mark name % size in
    let lt : mark name % size < size = mod-lt (mark name) some in
    let is = amount_is text name side in
    let le = sum_by-le-sum_by (λ t. cond (bytes_eq (name_at text t) name) t.count 0) (in_bucket text size k) side (in_its_bucket text name size) in
    let here = are.1 k lt in
    omega (arith, is, le, here)
