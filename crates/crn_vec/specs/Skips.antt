-- The places at which a vector is not zero, by the way from each place to the next of them.
-- Source: the usual way to store sparse vectors. Shapes: places count from 0.
use Rattle.std.specs.Prelude.{◌≡◌, ◌≤◌, ◌<◌, ℕ, ℤ, pos, List, length, slice_index}
use Rattle.crn_vec.specs.Vectors.{entry}

-- from place k the next at which the vector is not zero, or one before which there is none
pub record IsSkip (v : List ℤ) (k next : ℕ) : Type 0 where
  pub after : k ≤ next
  pub inside : next ≤ length v
  pub zero : (i : ℕ) → k ≤ i → i < next → entry v i ≡ pos 0

-- such a place from each place of a vector, and from its end
pub record AreSkips (v : List ℤ) (skips : List ℕ) : Type 0 where
  pub long : length v < length skips
  pub each : (k : ℕ) → k ≤ length v → IsSkip v k (slice_index skips k)
