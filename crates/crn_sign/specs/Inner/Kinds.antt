-- For the contracts of private functions alone.
-- Kinds that are kept with the words that require them.
use Rattle.std.specs.Prelude.{◌≡◌, ◌<◌, ℕ, length}
use Rattle.crn_vec.specs.Elementary.{width}
use Rattle.crn_vec.specs.Systems.{kind_at}
use Rattle.crn_vec.specs.Vectors.{Mat}
use Rattle.crn_sign.specs.declared.kinds.KeptKinds.{KeptKinds}
use Rattle.crn_sign.specs.Inner.Bits.{word_count}
use Rattle.crn_sign.specs.Inner.Marks.{kind_there}

-- the kinds are those that the words require of the coordinates of a matrix
pub record AreKept (a : Mat) (kept : KeptKinds) : Type 0 where
  pub long : length kept.kinds.items ≡ width a
  pub words : length kept.asked.items ≡ word_count a
  pub weak_words : length kept.weak.items ≡ word_count a
  pub are : (k : ℕ) → k < width a → kind_at kept.kinds.items k ≡ kind_there kept.weak.items kept.asked.items k
