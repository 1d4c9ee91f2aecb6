-- For the contracts of private functions alone.
-- The vectors that the rows of a matrix take to zero, and what shows that there are no others.
-- Source: this project's own.
-- Shapes: columns and rows count from 0. A tie is a list of multipliers, one for each row. The two
-- columns of a plane count from 1.
use Rattle.std.specs.Prelude.{◌≡◌, ◌≢◌, ◌≤◌, ◌<◌, ◌⊎◌, ◌==◌, ◌-◌, not, ℕ, ℤ, pos, List, length, filter}
use Rattle.std.specs.List.{AllZip, range_with_len}
use Rattle.crn_vec.specs.Lists.{IsIn}
use Rattle.crn_vec.specs.Vectors.{Mat, entry, dot}
use Rattle.crn_vec.specs.Rank.{combination_at, IsZero}
use Rattle.crn_vec.specs.Elementary.{IsPrimitive, IsNamedColumn, AreProportional}
use Rattle.crn_tab.specs.Tableau.{AreSmall}
use Rattle.crn_reg.specs.declared.space.Space.{Space}
use Rattle.crn_reg.specs.declared.space.Space.TheVariants.{Zero, Line, Plane}

-- every row times the vector is zero
pub record IsSolution (a : Mat) (x : List ℤ) : Type 0 where
  pub long : length x ≡ a.cols
  pub zero : (r : List ℤ) → IsIn r a.rows → dot r x ≡ pos 0

-- a primitive solution without a wide entry
pub record IsKeptSolution (a : Mat) (x : List ℤ) : Type 0 where
  pub solution : IsSolution a x
  pub primitive : IsPrimitive x
  pub small : AreSmall x

-- the first place of an entry that is not zero
pub record IsFirstPlace (x : List ℤ) (p : ℕ) : Type 0 where
  pub some : entry x p ≢ pos 0
  pub before : (k : ℕ) → k < p → entry x k ≡ pos 0

-- multipliers whose combination of the rows is not zero at column c, and zero at all others but the
-- spared one
pub record IsTieOf (a : Mat) (spared c : ℕ) (tie : List ℤ) : Type 0 where
  pub long : length tie ≡ length a.rows
  pub small : AreSmall tie
  pub own : combination_at tie a.rows c ≢ pos 0
  pub others : (d : ℕ) → d < a.cols → d ≢ c
      → (d ≡ spared) ⊎ (combination_at tie a.rows d ≡ pos 0)

-- the numbers below `end` but this one
abbrev pub numbers_but : ℕ → ℕ → List ℕ
numbers_but spared end = filter (λ d. not (d == spared)) (range_with_len 0 end)

-- a tie of each column but the spared one
abbrev pub AreTies : Mat → ℕ → List (List ℤ) → Type 0
AreTies a spared ties = AllZip (IsTieOf a spared) (numbers_but spared a.cols) ties

-- no column from `from` on and before `end` is in the basis
abbrev pub HasNoColumn : List ℕ → ℕ → ℕ → Type 0
HasNoColumn basis from end = (c : ℕ) → from ≤ c → c < end → IsIn c basis → ⊥

-- the least column from `from` on that is in the basis
pub record IsFirstColumn (basis : List ℕ) (from end c : ℕ) : Type 0 where
  pub inside : c < end
  pub later : from ≤ c
  pub member : IsIn c basis
  pub first : HasNoColumn basis from c

-- no column before `end` but this one is in the basis
abbrev pub HasNoOther : List ℕ → ℕ → ℕ → Type 0
HasNoOther basis end c = (d : ℕ) → d < end → d ≢ c → IsIn d basis → ⊥

-- the solution that the basis names by a column in it
pub record IsColumnPart (a : Mat) (basis : List ℕ) (c : ℕ) (x : List ℤ) : Type 0 where
  pub kept : IsKeptSolution a x
  pub own : entry x c ≢ pos 0
  pub v : List ℤ
  pub named : IsNamedColumn a basis c v
  pub same : (k : ℕ) → entry x k ≡ entry v k

-- a vector that the basis names by a column is not zero at a coordinate
abbrev pub HasEntryAt : Mat → List ℕ → ℕ → ℕ → Type 0
HasEntryAt a basis c k = (v : List ℤ) × IsNamedColumn a basis c v × (entry v k ≢ pos 0)

-- the basis has one coordinate in place of another
abbrev pub IsBrought : List ℕ → ℕ → ℕ → List ℕ → Type 0
IsBrought basis leave enter next = (k : ℕ) → IsIn k next
    → (IsIn k basis × (k ≢ leave)) ⊎ (k ≡ enter)

-- a solution whose multiples are all the solutions, and a tie of each column but that of its first
-- entry that is not zero
pub record IsLine (a : Mat) (x : List ℤ) (ties : List (List ℤ)) : Type 0 where
  pub kept : IsKeptSolution a x
  pub place : ℕ
  pub inside : place < a.cols
  pub first : IsFirstPlace x place
  pub ties_are : AreTies a place ties
  pub one : (g h : List ℤ) → IsSolution a g → IsSolution a h → AreProportional g h

-- a solution that is not zero at column c and zero at column d, which count from 1
pub record IsApart (a : Mat) (c d : ℕ) (x : List ℤ) : Type 0 where
  pub kept : IsKeptSolution a x
  pub own : entry x (c - 1) ≢ pos 0
  pub other : entry x (d - 1) ≡ pos 0

-- two solutions, each not zero at its own column and zero at that of the other
pub record ArePlane (a : Mat) (first second : ℕ) (one two : List ℤ) : Type 0 where
  pub from : 1 ≤ first
  pub less : first < second
  pub inside : second ≤ a.cols
  pub one_is : IsApart a first second one
  pub two_is : IsApart a second first two

-- only zero is a solution, as a tie of each column shows
pub record IsOnlyZero (a : Mat) (ties : List (List ℤ)) : Type 0 where
  pub ties_are : AreTies a a.cols ties
  pub none : (g : List ℤ) → IsSolution a g → IsZero g

-- the solutions are as the variant says
abbrev pub GivesSpace : Mat → Space → Type 0
GivesSpace a (Zero ties) = IsOnlyZero a ties
GivesSpace a (Line vector ties) = IsLine a vector.list ties
GivesSpace a (Plane first second one two) = ArePlane a first second one.list two.list
