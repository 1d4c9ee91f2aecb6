-- For the contracts of private functions alone.
-- Sets of species as words of bits.
-- Shapes: species count from 0; marks are 1 for a member and 0 for the others.
use Rattle.std.specs.Prelude.{◌≡◌, ◌==◌, ℕ, zero, suc, ℤ, pos, Bool, true, false, List, [], ◌∷◌, ◌++◌, map}
use Rattle.std.specs.Int.{bit_at}
use Rattle.crn_siphon.specs.declared.sets.SpeciesSet.{SpeciesSet}

-- species s is in the set
abbrev pub Has : SpeciesSet → ℕ → Type 0
Has set s = bit_at set.bits s ≡ 1

-- some species is in both sets
abbrev pub HasCommon : SpeciesSet → SpeciesSet → Type 0
HasCommon set other = (s : ℕ) × Has set s × Has other s

-- each species of the set is in the other one
abbrev pub IsWithin : SpeciesSet → SpeciesSet → Type 0
IsWithin set other = (s : ℕ) → Has set s → Has other s

-- which of the first species are in the set
abbrev pub members : SpeciesSet → (count : ℕ) → List Bool
members set zero = []
members set (suc s) = members set s ++ (bit_at set.bits s == 1) ∷ []

-- 1 for a member, and 0 for another species
abbrev pub mark : Bool → ℤ
mark true = pos 1
mark false = pos 0

-- the marks of the first species
abbrev pub marks : SpeciesSet → (count : ℕ) → List ℤ
marks set count = map mark (members set count)
