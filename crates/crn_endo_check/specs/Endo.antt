-- What an answer on endotactic networks says, and what shows it.
-- Source: this project's own.
-- Shapes: reactions count from 1 in answers, else from 0.
use Rattle.std.specs.Prelude.{◌≡◌, ◌<◌, ◌+◌, ◌-◌, ℕ, List, [], length, slice_index_or}
use Rattle.crn_vec.specs.declared.limits.TheConstants.{MAX_BUDGET}
use Rattle.crn_vec.specs.Network.{Net, IsNetwork}
use Rattle.crn_cert.specs.Ranges.{IsFrom, AreFree}
use Rattle.crn_cert.specs.Data.{IsBasisOf}
use Rattle.crn_cert.specs.Trees.{Plan, Both, Three, RulesA, RulesB, Level, IsFormedTree, IsValid}
use Rattle.crn_endo_check.specs.declared.endo.Endo.{Endo}
use Rattle.crn_endo_check.specs.declared.endo.Endo.TheVariants.{Yes, No, Wide, Spent, Large}
use Rattle.crn_endo_check.specs.Endotactic.{IsAgainst, IsEndotactic, IsEndotacticAt}
use Rattle.crn_endo_check.specs.Slopes.{IsSmallEnough, others, reactants, slopes}

-- a number, counted from 1, names reaction r
pub record NamesReaction (net : Net) (number r : ℕ) : Type 0 where
  pub is : number ≡ r + 1
  pub inside : r < length net.reactions

-- how many rows the matrix of each reaction has
abbrev pub row_count : Net → ℕ
row_count net = length net.reactions + length net.reactions + (length (reactants net) - 1)

-- no leaf of the tree is a cut of part B, of which nothing is required
abbrev pub CutsPartA : Plan → Type 0
CutsPartA (Both zero plus) = CutsPartA zero × CutsPartA plus
CutsPartA (Three zero plus minus) = CutsPartA zero × CutsPartA plus × CutsPartA minus
CutsPartA (RulesA u) = Unit {0}
CutsPartA (RulesB u) = ⊥
CutsPartA Level = Unit {0}

-- a tree is one of reaction r, by its form
abbrev pub IsSlopeTree : Net → ℕ → Plan → Type 0
IsSlopeTree net r tree = IsFormedTree (1 + length (others net r)) (row_count net) (row_count net) [] tree
    × CutsPartA tree

-- a formed tree for each reaction
pub record AreFormedTrees (net : Net) (trees : List Plan) : Type 0 where
  pub count : length trees ≡ length net.reactions
  pub each : (r : ℕ) → r < length net.reactions → IsSlopeTree net r (slice_index_or trees r Level)

-- the answer has the numbers that its lines may have
abbrev pub IsFormedEndo : Net → Endo → Type 0
IsFormedEndo net (Yes trees) = IsSmallEnough net × AreFormedTrees net trees
IsFormedEndo net (No reaction slope) = IsFrom 1 (length net.reactions) reaction
    × AreFree (length net.names) slope.list
IsFormedEndo net (Wide reaction index basis) = IsFrom 1 (length net.reactions) reaction
    × IsBasisOf (length net.names) (row_count net) index basis.list
IsFormedEndo net (Spent reaction nodes) = IsFrom 1 (length net.reactions) reaction
    × IsFrom 1 MAX_BUDGET nodes
IsFormedEndo net Large = Unit {0}

-- a valid tree for each reaction
pub record AreValidTrees (net : Net) (trees : List Plan) : Type 0 where
  pub count : length trees ≡ length net.reactions
  pub each : (r : ℕ) → r < length net.reactions
      → IsValid (slopes net r) [] (slice_index_or trees r Level)

-- the tests of a decided answer hold
abbrev pub IsValidEndo : Net → Endo → Type 0
IsValidEndo net (Yes trees) = IsSmallEnough net × AreValidTrees net trees
IsValidEndo net (No reaction slope) = (r : ℕ) × NamesReaction net reaction r
    × IsAgainst net r slope.list
IsValidEndo net (Wide reaction index basis) = Unit {0}
IsValidEndo net (Spent reaction nodes) = Unit {0}
IsValidEndo net Large = Unit {0}

-- what a decided answer says of a network: that it is endotactic, or that it is not at the reaction
abbrev pub IsTrueEndo : Net → Endo → Type 0
IsTrueEndo net (Yes trees) = IsEndotactic net
IsTrueEndo net (No reaction slope) = (r : ℕ) × NamesReaction net reaction r
    × (IsEndotacticAt net r → ⊥)
IsTrueEndo net (Wide reaction index basis) = Unit {0}
IsTrueEndo net (Spent reaction nodes) = Unit {0}
IsTrueEndo net Large = Unit {0}

-- a valid answer is true
abbrev pub ValidEndosAreTrue : Type 0
ValidEndosAreTrue = (net : Net) (answer : Endo) → IsNetwork net → IsValidEndo net answer
    → IsTrueEndo net answer
