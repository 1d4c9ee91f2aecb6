-- For the contracts of private functions alone.
-- What a pool keeps.
use Rattle.std.specs.List.{AllByRecursion}
use Rattle.crn_vec.specs.Vectors.{Mat}
use Rattle.crn_sign.specs.declared.pool.Pool.{Pool}
use Rattle.crn_sign.specs.Inner.Marks.{AreRowMarks}

-- the vectors are of this matrix
abbrev pub IsPool : Mat → Pool → Type 0
IsPool a p = AllByRecursion (λ v. AreRowMarks a v.marks.items) p.rays.items
