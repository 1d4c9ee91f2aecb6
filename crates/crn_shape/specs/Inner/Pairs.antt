-- For the contracts of private functions alone.
-- The pairs of a shape, found from the marks of their sides.
-- Source: this project's own.
-- Shapes: complexes and reactions count from 0.
use Rattle.std.specs.Prelude.{◌≡◌, ◌≢◌, ◌<◌, ◌+◌, ℕ, ℤ, neg_ℤ, Option, List, length, slice_index_or}
use Rattle.crn_vec.specs.Network.{Net}
use Rattle.crn_vec.specs.Vectors.{entry}
use Rattle.crn_vec.specs.CutPairs.{IsFirstOfPair}
use Rattle.crn_vec.specs.NetSignals.{IsPairOf}
use Rattle.crn_shape.specs.Sides.{IsSideOf}
use Rattle.crn_shape.specs.Shapes.{ends_of, pair_of}
use Rattle.crn_shape.specs.declared.pairs.LinkedPair.{LinkedPair}

-- the numbers of the complexes that reaction q joins have this sum
abbrev pub HasSum : Net → ℕ → ℕ → Type 0
HasSum net sum q =
    (slice_index_or net.reactions q (0, 0)).0 + (slice_index_or net.reactions q (0, 0)).1 ≡ sum

-- reaction r joins complexes of different marks
abbrev pub GoesAcross : Net → List ℤ → ℕ → Type 0
GoesAcross net marks r = entry marks (ends_of net r).0 ≢ entry marks (ends_of net r).1

-- reaction r is the first that joins complexes of different marks
pub record IsFirstAcross (net : Net) (marks : List ℤ) (r : ℕ) : Type 0 where
  pub inside : r < length net.reactions
  pub across : GoesAcross net marks r
  pub first : (q : ℕ) → q < r → GoesAcross net marks q → ⊥

-- the marks are those of the side of a linked pair within a terminal class
pub record IsSide (net : Net) (marks : List ℤ) : Type 0 where
  pub r : ℕ
  pub first : IsFirstOfPair net.reactions r
  pub side : IsSideOf net r marks

-- the pair is that of the reaction whose side has these marks
abbrev pub IsPairFor : Net → List ℤ → List (Option ℕ) → List ℤ → LinkedPair → Type 0
IsPairFor net g tops marks p = (p.reaction < length net.reactions)
    × ((r : ℕ) → IsFirstOfPair net.reactions r → IsSideOf net r marks
    → IsPairOf net g tops r (pair_of net p))

-- the same linked pair with the opposite sum
abbrev pub opposite_linked : LinkedPair → LinkedPair
opposite_linked p = record { reaction = p.reaction; top = p.top; sum = neg_ℤ p.sum }
