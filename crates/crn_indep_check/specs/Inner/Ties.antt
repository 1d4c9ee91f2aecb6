-- For the contracts of private functions alone.
-- Places in a base or rows, and reactions with the label of whatever they draw on.
-- Shapes: reactions count from 1, places from 0.
use Rattle.std.specs.Prelude.{◌≡◌, ◌≤◌, ◌<◌, ℕ, List, length, slice_index, Some, Result, Ok, Err}
use Rattle.crn_vec.specs.Network.{Net}
use Rattle.crn_cert.specs.declared.answer.RankProof.{RankProof}
use Rattle.crn_indep_check.specs.Finest.{label_of}
use Rattle.crn_indep_check.specs.Shown.{DrawsOn, GivesRow}

-- the place of reaction r in the base, or the row of its combination
abbrev pub IsPlaceOrRow : Net → RankProof → ℕ → Result ℕ ℕ → Type 0
IsPlaceOrRow net proof r (Ok place) =
    (place < length proof.base.list) × (slice_index proof.base.list place ≡ r)
IsPlaceOrRow net proof r (Err row) = GivesRow net proof r (Some row)

-- whatever reaction r draws on has its label
abbrev pub IsEvenAt : Net → RankProof → List ℕ → ℕ → Type 0
IsEvenAt net proof labels r = (q : ℕ) → DrawsOn net proof r q
    → label_of labels r ≡ label_of labels q

-- no number of the list is greater, and it is one of them, or 0
pub record IsGreatest (xs : List ℕ) (x : ℕ) : Type 0 where
  pub most : (k : ℕ) → k < length xs → slice_index xs k ≤ x
  pub some : 1 ≤ x → (k : ℕ) × (k < length xs) × (slice_index xs k ≡ x)
