-- For the contracts of private functions alone.
-- What a part of a search keeps, and what it answers.
use Rattle.std.specs.Prelude.{◌≡◌, ℤ, List, Option, Some, None, length}
use Rattle.std.specs.Global.{Global}
use Rattle.std.specs.declared.rc.Rc.{Rc}
use Rattle.crn_vec.specs.declared.signs.Kind.{Kind}
use Rattle.crn_vec.specs.Kept.{KeptInts}
use Rattle.crn_vec.specs.Vectors.{Mat}
use Rattle.crn_vec.specs.Elementary.{width}
use Rattle.crn_vec.specs.Systems.{IsSolution}
use Rattle.crn_farkas.specs.Decision.{IsSmallCut}
use Rattle.crn_sign.specs.declared.part.Part.{Part}
use Rattle.crn_sign.specs.declared.finder.Finder.{Finder}
use Rattle.crn_sign.specs.Inner.Bits.{word_count}
use Rattle.crn_sign.specs.Inner.Kinds.{AreKept}
use Rattle.crn_sign.specs.Inner.PastCuts.{ArePastCuts}
use Rattle.crn_sign.specs.Inner.Pools.{IsPool}

-- the solver and the vectors are of this matrix, and the lists have room for its coordinates
pub record IsFinder (a : Mat) (f : Finder) : Type 0 where
  pub matrix : f.solver.matrix ≡ a
  pub pool : IsPool a f.pool
  pub signs : length f.witness_signs.items ≡ width a
  pub witness : length f.witness_marks.items ≡ word_count a
  pub negative : length f.negative_marks.items ≡ word_count a
  pub required : length f.required_of_change.items ≡ word_count a
  pub kinds : AreKept a f.kinds

-- what was found is of this matrix
pub record IsPart (a : Mat) (p : Part) : Type 0 where
  pub finder : IsFinder a p.finder
  pub past : ArePastCuts a p.past_cuts.items

-- multipliers that rule the system out, or none if it has a solution
abbrev pub IsRuling : Mat → List Kind → Option (Rc KeptInts Global) → Type 0
IsRuling a kinds None = (x : List ℤ) × IsSolution a kinds x
IsRuling a kinds (Some u) = IsSmallCut a kinds u.value.list
