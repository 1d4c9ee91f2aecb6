-- Trees that show that each siphon contains the species of a law.
-- Source: this project's own.
-- Shapes: a tree is at a prefix of sets of species.
use Rattle.std.specs.Prelude.{◌≤◌, ◌<◌, ◌+◌, ℕ, ℤ, true, false, Bool, List, [], ◌∷◌, ◌++◌, length}
use Rattle.crn_vec.specs.Network.{Net}
use Rattle.crn_cert.specs.Ranges.{AreFree}
use Rattle.crn_siphon_check.specs.Siphons.{IsSemiLaw, IsZeroOutside}
use Rattle.crn_siphon_check.specs.Prefixes.{IsBad, IsVoid}

-- a tree as contracts see it
pub data Plan : Type 0 where
  -- the next species is in, or out
  Fork : (inside outside : Plan) → Plan
  -- this reaction excludes every siphon
  Bad : ℕ → Plan
  -- a law with these weights is within every siphon
  Law : List ℤ → Plan
  -- all species are out
  Void : Plan

-- a tree is valid at a prefix: a fork has a next species, and trees that are valid with it in and
-- with it out; a reaction or a law stops the prefix; or the prefix is void
abbrev pub IsValidTree : Net → List Bool → Plan → Type 0
IsValidTree net prefix (Fork inside outside) = (length prefix < length net.names)
    × IsValidTree net (prefix ++ true ∷ []) inside × IsValidTree net (prefix ++ false ∷ []) outside
IsValidTree net prefix (Bad r) = IsBad net prefix r
IsValidTree net prefix (Law weights) = IsSemiLaw net weights × IsZeroOutside prefix weights
IsValidTree net prefix Void = IsVoid net prefix

-- the tree at a prefix of this length has the form of lines: a fork stands at a prefix that is not
-- full, and the numbers are in their ranges
abbrev pub IsFormedTree : Net → (chosen : ℕ) → Plan → Type 0
IsFormedTree net chosen (Fork inside outside) = (chosen < length net.names)
    × IsFormedTree net (chosen + 1) inside × IsFormedTree net (chosen + 1) outside
IsFormedTree net chosen (Bad r) = (1 ≤ r) × (r ≤ length net.reactions)
IsFormedTree net chosen (Law weights) = AreFree (length net.names) weights
IsFormedTree net chosen Void = Unit {0}

-- how many nodes it has
abbrev pub node_count : Plan → ℕ
node_count (Fork inside outside) = 1 + node_count inside + node_count outside
node_count (Bad r) = 1
node_count (Law weights) = 1
node_count Void = 1
