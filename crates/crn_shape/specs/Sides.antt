-- What a shape is made from: labels and exits of the strong classes, and the sides of the linked
-- pairs within terminal ones.
-- Source: this project's own, after Feinberg (1995).
-- Shapes: complexes and reactions count from 0. Labels count from 1. Marks are
-- 1 at the complexes of a side, else 0.
use Rattle.std.specs.Prelude.{◌≡◌, ℕ, ℤ, List, length}
use Rattle.std.specs.List.{AllZip}
use Rattle.crn_vec.specs.Network.{Net}
use Rattle.crn_vec.specs.Strong.{IsReaction}
use Rattle.crn_vec.specs.CutPairs.{IsOnSide, ArePairs}
use Rattle.crn_vec.specs.Sums.{AreMarks}
use Rattle.crn_cert.specs.Says.{AreStrongClasses}

-- right labels of the strong classes, with an exit of each class, 0 if and only if it is terminal
abbrev pub AreClassesBy : Net → List ℕ → List ℕ → Type 0
AreClassesBy net labels exits = (count : ℕ) × (terminal : ℕ)
    × AreStrongClasses net count terminal labels exits

-- the marks of the side of the product of reaction r, in the pair that the reaction joins
pub record IsSideOf (net : Net) (r : ℕ) (marks : List ℤ) : Type 0 where
  pub y : ℕ
  pub z : ℕ
  pub goes : IsReaction net.reactions r y z
  pub long : length marks ≡ length net.complexes
  pub right : AreMarks (IsOnSide net.reactions y z) marks

-- the sides of the linked pairs within terminal classes, in the order of their least reactions
pub record AreSides (net : Net) (sides : List (List ℤ)) : Type 0 where
  pub places : List ℕ
  pub pairs : ArePairs net.reactions places
  pub marks : AllZip (IsSideOf net) places sides
