-- The linked pairs of complexes within terminal strong classes, by labels and exits.
-- Source: Feinberg (1995), Archive for Rational Mechanics and Analysis 132, section 4; labels and exits are this project's own.
-- Shapes: reactions and classes count from 1, complexes from 0.
use Rattle.std.specs.Prelude.{◌==◌, ◌&&◌, ℕ, Bool, List, filter, slice_index}
use Rattle.std.specs.List.{range_with_len}
use Rattle.crn_vec.specs.Network.{Net}
use Rattle.crn_cert.specs.ClassTests.{of_class}
use Rattle.crn_cert.specs.Valid.{ends_at, is_least_of_pair}

-- two complexes are in one strong class, which has no exit
abbrev pub is_within : List ℕ → List ℕ → ℕ × ℕ → Bool
is_within labels exits e = (slice_index labels e.0 == slice_index labels e.1)
    && (of_class labels exits e.0 == 0)

-- reaction r is the least that joins some linked pair of a terminal class
abbrev pub is_pair : Net → List ℕ → List ℕ → ℕ → Bool
is_pair net labels exits r = is_within labels exits (ends_at net r) && is_least_of_pair net r

-- the linked pairs of terminal classes whose least reaction is among the first n
abbrev pub pairs_to : Net → List ℕ → List ℕ → ℕ → List ℕ
pairs_to net labels exits n = filter (is_pair net labels exits) (range_with_len 1 n)
