-- What a solver's answers say of the basis that it keeps, and what it keeps.
-- Shapes: `kinds`, `marks` and `signs` have a member for each coordinate; a basis is ascending and counted from 0, `numbers` from 1.
use Rattle.std.specs.List.{AllZip}
use Rattle.std.specs.Prelude.{Bool, Err, List, Ok, Result, drop, length, map, suc, ℕ, ℤ, ◌<◌, ◌≡◌, ◌≢◌, ◌⊎◌}
use Rattle.crn_farkas.specs.Decision.{IsSmallCut}
use Rattle.crn_farkas.specs.declared.alternative.Alternative.{Alternative}
use Rattle.crn_farkas.specs.declared.alternative.Alternative.TheVariants.{Cut, Witness}
use Rattle.crn_farkas.specs.declared.decision.Decision.{Decision}
use Rattle.crn_farkas.specs.declared.decision.Decision.TheVariants.{Feasible, Infeasible}
use Rattle.crn_farkas.specs.declared.feasibility.Feasibility.{Feasibility}
use Rattle.crn_farkas.specs.declared.feasibility.Feasibility.TheVariants.{Unsolvable, Solvable}
use Rattle.crn_farkas.specs.declared.fault.Stop.{Stop}
use Rattle.crn_farkas.specs.declared.fault.Stop.TheVariants.{NoMemory, Wide}
use Rattle.crn_tab.specs.Tableau.{IsRefused, NamesRows}
use Rattle.crn_vec.specs.Elementary.{Exchanged, InDualSpace, InRowSpace, IsElementary, IsNamed, IsNamedColumn, IsNamedRow, IsWideMatrix, NamesWide, width}
use Rattle.crn_vec.specs.Lists.{IsIn}
use Rattle.crn_vec.specs.Systems.{HasKind, IsCut, IsSolution, MayTake, kind_at}
use Rattle.crn_vec.specs.Vectors.{HasSign, Mat, entry, scale}
use Rattle.crn_vec.specs.declared.signs.Kind.{Kind}
use Rattle.crn_vec.specs.declared.signs.Sign.{Sign}
use Rattle.crn_vec.specs.declared.signs.Sign.TheVariants.{Zero}

-- each vector that the basis names by e and of this sign there rules the system out
pub record CutsBy (a : Mat) (basis : List ℕ) (kinds : List Kind) (e : ℕ) (sign : Sign) : Type 0 where
  pub some : sign ≢ Zero
  pub rules : (w : List ℤ) → IsNamedRow a basis e w → HasSign sign (entry w e) → IsCut a kinds (drop a.cols w)

-- the vectors that the basis names by this coordinate outside it, of this sign there, rule the system out
pub record IsCutBy (a : Mat) (basis : List ℕ) (kinds : List Kind) (row : ℕ) (sign : Sign) : Type 0 where
  pub inside : row < width a
  pub outside : IsIn row basis → ⊥
  pub cuts : CutsBy a basis kinds row sign

-- some vector (-uA, u) that the basis names by a coordinate outside it, or a multiple of it, rules the system out
pub record HasKeptCut (a : Mat) (basis : List ℕ) (kinds : List Kind) : Type 0 where
  pub e : ℕ
  pub w : List ℤ
  pub named : IsNamedRow a basis e w
  pub rules : IsCut a kinds (drop a.cols w)

-- the list (-uA, u) is a multiple of the primitive vector that the basis names by a coordinate outside it
pub record AreNamedMultipliers (a : Mat) (basis : List ℕ) (u : List ℤ) : Type 0 where
  pub e : ℕ
  pub outside : IsIn e basis → ⊥
  pub w : List ℤ
  pub named : IsNamed a basis e w
  pub q : ℤ
  pub space : InDualSpace a (scale q w)
  pub rows : drop a.cols (scale q w) ≡ u

-- multipliers that rule the system out, of a vector that the basis names
abbrev pub IsNamedCut : Mat → List ℕ → List Kind → List ℤ → Type 0
IsNamedCut a basis kinds u = IsSmallCut a kinds u × AreNamedMultipliers a basis u

-- multipliers are those of a vector that the kept basis names
abbrev pub IsNamedDecision : Mat → List ℕ → Decision → Type 0
IsNamedDecision a basis (Feasible x) = Unit {0}
IsNamedDecision a basis (Infeasible u) = AreNamedMultipliers a basis u.list

-- the system is ruled out, or memory runs out
abbrev pub IsRuledOut : Result Decision Stop → Type 0
IsRuledOut (Ok (Feasible x)) = ⊥
IsRuledOut (Ok (Infeasible u)) = Unit {0}
IsRuledOut (Err (Wide index basis)) = ⊥
IsRuledOut (Err NoMemory) = Unit {0}

-- a single exchange leads from the basis to the next one
pub record IsOneExchange (basis next : List ℕ) : Type 0 where
  pub leave : ℕ
  pub enter : ℕ
  pub member : IsIn leave basis
  pub outside : IsIn enter basis → ⊥
  pub exchanged : Exchanged basis leave enter next

-- the numbers, counted from 1, are those of a basis to which a single exchange leads from this one
pub record IsNext (basis numbers : List ℕ) : Type 0 where
  pub next : List ℕ
  pub numbered : numbers ≡ map suc next
  pub exchange : IsOneExchange basis next

-- the numbers, counted from 1, are those of the basis, or of one to which a single exchange leads from it
pub record IsNear (basis numbers : List ℕ) : Type 0 where
  pub next : List ℕ
  pub numbered : numbers ≡ map suc next
  pub near : (next ≡ basis) ⊎ IsOneExchange basis next

-- if a vector is wide, the kept basis is the one named, or a single exchange leads from it to that one
abbrev pub IsNearStop : List ℕ → Stop → Type 0
IsNearStop basis (Wide index numbers) = IsNear basis numbers.list
IsNearStop basis NoMemory = Unit {0}

-- some exchange of a member of the basis for a coordinate outside it names a wide vector
pub record HasRefused (a : Mat) (basis : List ℕ) : Type 0 where
  pub leave : ℕ
  pub enter : ℕ
  pub index : ℕ
  pub refused : IsRefused a basis leave enter index

-- a wide vector that is named by a basis to which a single exchange leads, or memory runs out for its name
abbrev pub IsRefusedStop : Mat → List ℕ → Stop → Type 0
IsRefusedStop a basis (Wide index numbers) = NamesWide a index numbers.list × IsNext basis numbers.list
IsRefusedStop a basis NoMemory = HasRefused a basis

-- if a question by signs stops, some primitive elementary vector of the matrix is wide: the questions of any other matrix are answered, also if no memory is left
abbrev pub RefusedStopsShowAWideMatrix : Type 0
RefusedStopsShowAWideMatrix = (a : Mat) (basis : List ℕ) (stop : Stop) → NamesRows a basis → IsRefusedStop a basis stop → IsWideMatrix a

-- the system has a solution, or a vector that the basis names rules it out
abbrev pub IsFeasibility : Mat → List ℕ → List Kind → Feasibility → Type 0
IsFeasibility a basis kinds Solvable = (x : List ℤ) × IsSolution a kinds x
IsFeasibility a basis kinds (Unsolvable cut) = IsCutBy a basis kinds cut.row cut.sign

-- the system is ruled out
abbrev pub IsUnsolvable : Result Feasibility Stop → Type 0
IsUnsolvable (Ok Solvable) = ⊥
IsUnsolvable (Ok (Unsolvable cut)) = Unit {0}
IsUnsolvable (Err s) = ⊥

-- the signs of an elementary vector (x, Ax) that a member of the basis names, right everywhere and of the kind of g at g
pub record AreWitnessSigns (a : Mat) (basis : List ℕ) (kinds : List Kind) (g : ℕ) (signs : List Sign) : Type 0 where
  pub b : ℕ
  pub y : List ℤ
  pub named : IsNamedColumn a basis b y
  pub elementary : IsElementary (InRowSpace a) y
  pub takes : (k : ℕ) → MayTake (kind_at kinds k) (entry y k)
  pub goal : HasKind (kind_at kinds g) (entry y g)
  pub are : AllZip HasSign signs y

-- the signs of an elementary vector (-uA, u) that the basis names by g, which is outside it, of this sign there
pub record AreCutSigns (a : Mat) (basis : List ℕ) (g : ℕ) (sign : Sign) (signs : List Sign) : Type 0 where
  pub w : List ℤ
  pub named : IsNamedRow a basis g w
  pub elementary : IsElementary (InDualSpace a) w
  pub at_goal : HasSign sign (entry w g)
  pub are : AllZip HasSign signs w

-- the signs of the list (-uA, u)
pub record AreSignsOf (a : Mat) (u : List ℤ) (signs : List Sign) : Type 0 where
  pub w : List ℤ
  pub space : InDualSpace a w
  pub rows : drop a.cols w ≡ u
  pub are : AllZip HasSign signs w
  pub long : length signs ≡ width a

-- the signs of a witness, or of the vector by which the system is ruled out
abbrev pub IsAlternative : Mat → List ℕ → List Kind → ℕ → List Sign → Alternative → Type 0
IsAlternative a basis kinds g signs Witness = AreWitnessSigns a basis kinds g signs
IsAlternative a basis kinds g signs (Cut cut) = (cut.row ≡ g) × IsCutBy a basis kinds cut.row cut.sign × AreCutSigns a basis g cut.sign signs

-- each working list has room for all coordinates of the matrix
pub record HasRoom (a : Mat) (level : List ℕ) (sum work : List ℤ) (marks : List Bool) : Type 0 where
  pub level_long : length level ≡ width a
  pub sum_long : length sum ≡ width a
  pub work_long : length work ≡ width a
  pub marks_long : length marks ≡ width a
