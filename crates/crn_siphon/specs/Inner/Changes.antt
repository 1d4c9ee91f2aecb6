-- For the contracts of private functions alone.
-- Reactions by the species that they change.
-- Shapes: species and reactions count from 0.
use Rattle.std.specs.Prelude.{◌≡◌, ◌<◌, ◌==◌, ℕ, ℤ, pos, ◌+ℤ◌, if◌then◌else◌, List, [], ◌∷◌, length, slice_index_or}
use Rattle.crn_vec.specs.Network.{Net, reaction_vector}
use Rattle.crn_vec.specs.Vectors.{entry}
use Rattle.crn_siphon.specs.declared.change.Change.{Change}
use Rattle.crn_siphon.specs.declared.changes.Changes.{Changes}

-- how much a change of a species by a number changes species s
abbrev pub part_at : (species : ℕ) → (by : ℤ) → (s : ℕ) → ℤ
part_at species by s = if species == s then by else pos 0

-- by how much the changes change species s
abbrev pub change_at : List Change → (s : ℕ) → ℤ
change_at [] s = pos 0
change_at (change ∷ changes) s = part_at change.species change.by s +ℤ change_at changes s

-- the changes of the first reactions
pub record AreChanges (net : Net) (count : ℕ) (all : List Changes) : Type 0 where
  pub long : length all ≡ count
  pub each : (r s : ℕ) (none : Changes) → r < count
      → change_at (slice_index_or all r none).list.items s
      ≡ entry (reaction_vector net (slice_index_or net.reactions r (0, 0))) s
