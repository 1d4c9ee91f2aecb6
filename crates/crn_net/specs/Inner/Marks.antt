-- For the contracts of private functions alone.
-- Marks of reactions, by their slots.
use Rattle.std.specs.Prelude.{◌≤◌, ◌+◌, ◌*◌, ◌%◌, ◌^◌, ℕ, List, slice_index_or}
use Rattle.std.specs.List.{AllByRecursion}
use Rattle.crn_vec.specs.declared.limits.TheConstants.{MAX_COMPLEXES}
use Rattle.crn_net.specs.declared.reactions.TheConstants.{SLOTS}

-- the slot of a reaction
abbrev pub slot_of : ℕ × ℕ → ℕ
slot_of r = ((r.0 * (MAX_COMPLEXES + 1) % 2 ^ 64 + r.1) % 2 ^ 64) % SLOTS

-- the slot of the reaction has a mark
abbrev pub IsMarked : List ℕ → ℕ × ℕ → Type 0
IsMarked marks r = 1 ≤ slice_index_or marks (slot_of r) 0

-- so have the slots of all these reactions
abbrev pub AreMarked : List ℕ → List (ℕ × ℕ) → Type 0
AreMarked marks reactions = AllByRecursion (IsMarked marks) reactions
