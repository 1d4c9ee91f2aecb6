-- What the decision of a linear system says: a solution, or multipliers that rule every solution out, or a vector that is too wide.
-- Source: Minty (1974) and Rockafellar (1969), on elementary vectors and the alternative. Shapes: `kinds` has a member for each coordinate.
use Rattle.std.specs.Prelude.{Bool, Err, List, MatchResult, Ok, Result, false, length, negsuc, pos, true, unsigned_abs, ℕ, ℤ, ◌<◌, ◌≡◌, ◌≢◌, ◌⊎◌}
use Rattle.crn_farkas.specs.declared.decision.Decision.{Decision}
use Rattle.crn_farkas.specs.declared.decision.Decision.TheVariants.{Feasible, Infeasible}
use Rattle.crn_farkas.specs.declared.fault.Stop.{Stop}
use Rattle.crn_farkas.specs.declared.fault.Stop.TheVariants.{NoMemory, Wide}
use Rattle.crn_vec.specs.Elementary.{InRowSpace, IsWideMatrix, NamesWide, width}
use Rattle.crn_vec.specs.Kept.{KeptInts}
use Rattle.crn_vec.specs.Lists.{IsIn}
use Rattle.crn_vec.specs.Systems.{HasOneRowCut, HasSigned, IsCut, IsSolution, MayTake, Solves, is_signed, kind_at}
use Rattle.crn_vec.specs.Vectors.{AreOfLength, Mat, entry}
use Rattle.crn_vec.specs.declared.limits.TheConstants.{WIDE_ENTRY, WIDE_SOLUTION}
use Rattle.crn_vec.specs.declared.signs.Kind.{Kind}

-- 1, or -1 for the negative
abbrev pub factor : Bool → ℤ
factor true = pos 1
factor false = negsuc 0

-- multipliers below the bound that rule the system out
pub record IsSmallCut (a : Mat) (kinds : List Kind) (u : List ℤ) : Type 0 where
  pub cut : IsCut a kinds u
  pub small : (k : ℕ) → unsigned_abs (entry u k) < WIDE_ENTRY

-- a solution whose coordinates are below the bound
pub record IsSmallSolution (a : Mat) (kinds : List Kind) (x : List ℤ) : Type 0 where
  pub v : List ℤ
  pub solves : Solves a kinds x v
  pub small : (k : ℕ) → unsigned_abs (entry v k) < WIDE_SOLUTION

-- a wide vector that is named, and only if some coordinate has to be positive or negative
abbrev pub IsTargetStop : Mat → List Kind → Stop → Type 0
IsTargetStop a kinds (Wide index basis) = NamesWide a index basis.list × HasSigned kinds
IsTargetStop a kinds NoMemory = Unit {0}

-- a wide vector that is named, while no single row rules the system out and some coordinate has to be positive or negative
abbrev pub IsStop : Mat → List Kind → Stop → Type 0
IsStop a kinds (Wide index basis) = NamesWide a index basis.list × HasSigned kinds × (HasOneRowCut a kinds → ⊥)
IsStop a kinds NoMemory = Unit {0}

-- a solution, or multipliers that rule the system out
abbrev pub IsDecision : Mat → List Kind → Decision → Type 0
IsDecision a kinds (Feasible x) = IsSmallSolution a kinds x.list
IsDecision a kinds (Infeasible u) = IsSmallCut a kinds u.list

-- a system that has a solution has no multipliers that rule it out
abbrev pub DecisionsExcludeEachOther : Type 0
DecisionsExcludeEachOther = (a : Mat) (kinds : List Kind) (x u : KeptInts) → IsDecision a kinds (Feasible x) → IsDecision a kinds (Infeasible u) → ⊥

-- vectors (x, Ax) that are right everywhere, of which one is not 0 at each coordinate that has to be positive or negative, make a solution
abbrev pub WitnessesMakeSolutions : Type 0
WitnessesMakeSolutions = (a : Mat) (kinds : List Kind) (ys : List (List ℤ)) → length kinds ≡ width a
    → ((y : List ℤ) → IsIn y ys → InRowSpace a y × ((k : ℕ) → MayTake (kind_at kinds k) (entry y k)))
    → ((k : ℕ) → is_signed (kind_at kinds k) ≡ true → (y : List ℤ) × IsIn y ys × (entry y k ≢ pos 0))
    → (x : List ℤ) × IsSolution a kinds x

-- a system whose matrix has no wide primitive elementary vector is decided, if memory does not run out
abbrev pub NarrowMatricesAreDecided : Type 0
NarrowMatricesAreDecided = (a : Mat) (kinds : List Kind) (answer : Result Decision Stop) → AreOfLength a.cols a.rows → (IsWideMatrix a → ⊥)
    → MatchResult answer (IsDecision a kinds) (IsStop a kinds) → ((d : Decision) × (answer ≡ Ok d)) ⊎ (answer ≡ Err NoMemory)
