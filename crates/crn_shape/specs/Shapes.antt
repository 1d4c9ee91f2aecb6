-- The shape of a network by the numbers of its terminal classes and by its linked pairs.
-- Source: this project's own.
-- Shapes: complexes and reactions count from 0.
use Rattle.std.specs.Prelude.{◌≡◌, ◌≤◌, ◌<◌, ◌^◌, ℕ, pos, Option, List, length, map, slice_index_or, unsigned_abs}
use Rattle.std.specs.List.{AllByRecursion}
use Rattle.crn_vec.specs.declared.limits.TheConstants.{MAX_COMPLEXES}
use Rattle.crn_vec.specs.Network.{Net}
use Rattle.crn_vec.specs.Signals.{Pair, Shape}
use Rattle.crn_shape.specs.declared.pairs.LinkedPair.{LinkedPair}

-- the two complexes of reaction r
abbrev pub ends_of : Net → ℕ → ℕ × ℕ
ends_of net r = slice_index_or net.reactions r (0, 0)

-- a linked pair by its reaction, with its terminal class and the sum
abbrev pub pair_of : Net → LinkedPair → Pair
pair_of net p = record {
  low = (ends_of net p.reaction).0;
  high = (ends_of net p.reaction).1;
  top = p.top;
  sum = p.sum;
}

-- the shape of a network with these terminal classes and linked pairs
abbrev pub shape_of : Net → List (Option ℕ) → ℕ → List LinkedPair → Shape
shape_of net tops count pairs = record {
  species = length net.names;
  complexes = net.complexes;
  tops = tops;
  count = count;
  pairs = map (pair_of net) pairs;
}

-- a pair past the end of a list
abbrev pub no_pair : Pair
no_pair = record { low = 0; high = 0; top = 0; sum = pos 0 }

-- the reaction of a linked pair is one of the network, and its sum has a negative of 128 bits
pub record IsPairIn (net : Net) (p : LinkedPair) : Type 0 where
  pub inside : p.reaction < length net.reactions
  pub small : unsigned_abs p.sum < 2 ^ 127

-- terminal classes and linked pairs that a shape of the network may have
pub record AreForShape (net : Net) (tops : List (Option ℕ)) (count : ℕ) (pairs : List LinkedPair)
    : Type 0 where
  pub tops_long : length tops ≡ length net.complexes
  pub few : count ≤ MAX_COMPLEXES
  pub few_pairs : length pairs < length net.complexes
  pub pairs_in : AllByRecursion (IsPairIn net) pairs
