-- For the contracts of private functions alone.
-- The places of a label.
use Rattle.std.specs.Prelude.{◌≡◌, ◌≢◌, ◌≤◌, ◌<◌, ℕ, List, length, take, drop, slice_index}
use Rattle.std.specs.List.{AllByRecursion}

-- the first n labels are not k, and these are after them
pub record AreOthers (n k : ℕ) (labels rest : List ℕ) : Type 0 where
  pub many : n ≤ length labels
  pub others : AllByRecursion (λ l. l ≢ k) (take n labels)
  pub left : rest ≡ drop n labels

-- n labels come before the first that is k, or n is the number of labels and none is
pub record IsFirst (k : ℕ) (labels : List ℕ) (n : ℕ) : Type 0 where
  pub within : n ≤ length labels
  pub others : AllByRecursion (λ l. l ≢ k) (take n labels)
  pub first : n < length labels → slice_index labels n ≡ k
