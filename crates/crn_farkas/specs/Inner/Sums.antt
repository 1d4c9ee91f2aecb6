-- For the contracts of private functions alone. The sum of witnesses that a decision builds, coordinate by coordinate, and what it ends with at one of them.
use Rattle.std.specs.Prelude.{Bool, IsTrue, List, false, length, pos, slice_index_or, take, true, unsigned_abs, ℕ, ℤ, ◌*◌, ◌<◌, ◌≡◌, ◌≢◌, ◌≤◌, ◌⊎◌}
use Rattle.crn_farkas.specs.Decision.{IsSmallSolution, factor}
use Rattle.crn_farkas.specs.Solver.{IsCutBy, IsNamedCut, IsNear}
use Rattle.crn_farkas.specs.declared.columns.Shown.{Shown}
use Rattle.crn_farkas.specs.declared.columns.Shown.TheVariants.{Cut as ShownCut, Nothing, Solution}
use Rattle.crn_farkas.specs.declared.goal.Part.{Part}
use Rattle.crn_farkas.specs.declared.goal.Part.TheVariants.{Cut as PartCut, Witness as PartWitness}
use Rattle.crn_farkas.specs.declared.fault.Stop.{Stop}
use Rattle.crn_farkas.specs.declared.fault.Stop.TheVariants.{NoMemory, Wide}
use Rattle.crn_farkas.specs.Inner.Views.{AreLevels}
use Rattle.crn_vec.specs.Elementary.{InRowSpace, NamesWide, width}
use Rattle.crn_vec.specs.Systems.{MayTake, is_signed, kind_at, signed_count}
use Rattle.crn_vec.specs.Vectors.{Mat, entry, scale}
use Rattle.crn_vec.specs.declared.limits.TheConstants.{MAX_SIGNED, WIDE_ENTRY}
use Rattle.crn_vec.specs.declared.signs.Kind.{Kind}

-- a vector (x, Ax) that is one of those that add up to a solution, and not 0 at g
pub record IsWitness (a : Mat) (kinds : List Kind) (g : ℕ) (y : List ℤ) : Type 0 where
  pub space : InRowSpace a y
  pub takes : (k : ℕ) → MayTake (kind_at kinds k) (entry y k)
  pub some : entry y g ≢ pos 0
  pub small : (k : ℕ) → unsigned_abs (entry y k) < WIDE_ENTRY

-- a basis and an index that name a wide vector, and the kept basis is that one or a single exchange leads to it, or memory runs out
abbrev pub IsGoalStop : Mat → List ℕ → Stop → Type 0
IsGoalStop a basis (Wide index numbers) = NamesWide a index numbers.list × IsNear basis numbers.list
IsGoalStop a basis NoMemory = Unit {0}

-- one part of the alternative at g: multipliers, or a list that was lent has a witness or minus one
abbrev pub IsPart : Mat → List ℕ → List Kind → ℕ → List ℤ → Part → Type 0
IsPart a basis kinds g work (PartCut u) = IsNamedCut a basis kinds u.list
IsPart a basis kinds g work (PartWitness stays) = IsWitness a kinds g (scale (factor stays) work)

-- a sum of vectors (x, Ax) that is right everywhere, and not 0 at the coordinates before g that have to be positive or negative
pub record IsPartSum (a : Mat) (kinds : List Kind) (g : ℕ) (v : List ℤ) : Type 0 where
  pub space : InRowSpace a v
  pub takes : (k : ℕ) → MayTake (kind_at kinds k) (entry v k)
  pub some : (k : ℕ) → k < g → is_signed (kind_at kinds k) ≡ true → entry v k ≢ pos 0
  pub small : (k : ℕ) → unsigned_abs (entry v k) ≤ signed_count (take g kinds) * WIDE_ENTRY

-- some vector (x, Ax), of any size, is right everywhere, and not 0 at the coordinates that have to be positive or negative and are before g or have a mark
pub record HasPartSum (a : Mat) (kinds : List Kind) (g : ℕ) (marks : List Bool) : Type 0 where
  pub v : List ℤ
  pub space : InRowSpace a v
  pub takes : (k : ℕ) → MayTake (kind_at kinds k) (entry v k)
  pub some : (k : ℕ) → (k < g) ⊎ IsTrue (slice_index_or marks k false) → is_signed (kind_at kinds k) ≡ true → entry v k ≢ pos 0

-- a list of kinds for a decision, with room in each list that it works in
pub record CanDecide (a : Mat) (kinds : List Kind) (level : List ℕ) (sum work : List ℤ) : Type 0 where
  pub kinds_long : length kinds ≡ width a
  pub few : signed_count kinds ≤ MAX_SIGNED
  pub level_long : length level ≡ width a
  pub sum_long : length sum ≡ width a
  pub work_long : length work ≡ width a

-- what a decision has before coordinate g: the kinds, the levels, the sum so far and a list to work in
pub record IsDeciding (a : Mat) (kinds : List Kind) (levels : List ℕ) (g : ℕ) (sum work : List ℤ) : Type 0 where
  pub kinds_long : length kinds ≡ width a
  pub few : signed_count kinds ≤ MAX_SIGNED
  pub levels_are : AreLevels (length kinds) levels
  pub part : IsPartSum a kinds g sum
  pub work_long : length work ≡ length kinds

-- this many zeros
pub record AreZeros (count : ℕ) (v : List ℤ) : Type 0 where
  pub long : length v ≡ count
  pub zero : (k : ℕ) → entry v k ≡ pos 0

-- what a basis shows: the columns of a list are a solution, or a vector that it names rules the system out, or nothing
abbrev pub IsShown : Mat → List ℕ → List Kind → List ℤ → Shown → Type 0
IsShown a basis kinds sum Solution = IsSmallSolution a kinds (take a.cols sum)
IsShown a basis kinds sum (ShownCut cut) = IsCutBy a basis kinds cut.row cut.sign
IsShown a basis kinds sum Nothing = Unit {0}
