-- For the contracts of private functions alone.
-- What a part keeps of past multipliers, a list for each length of a prefix.
use Rattle.std.specs.Prelude.{◌≡◌, ℤ, Bool, false, List}
use Rattle.std.specs.List.{AllByRecursion}
use Rattle.crn_vec.specs.Vectors.{Mat, scale}
use Rattle.crn_vec.specs.declared.signs.Kind.{Kind}
use Rattle.crn_farkas.specs.Decision.{IsSmallCut, factor}
use Rattle.crn_sign.specs.declared.past.Known.{Known}
use Rattle.crn_sign.specs.declared.past.Known.TheVariants.{Open, RuledOut, RuledOutBy}
use Rattle.crn_sign.specs.declared.past.Past.{Past}
use Rattle.crn_sign.specs.declared.past.PastCuts.{PastCuts}
use Rattle.crn_sign.specs.Inner.Past.{IsPast}

-- multipliers that ruled out a system of the matrix, and their negatives
pub record IsPastOf (a : Mat) (q : Past) : Type 0 where
  pub past : IsPast a q.multipliers.value.list q.marks.items
  pub negatives : q.negatives.value.list ≡ scale (factor false) q.multipliers.value.list

-- each of these ruled out a system of the matrix
abbrev pub AreAllPast : Mat → List Past → Type 0
AreAllPast a past = AllByRecursion (IsPastOf a) past

-- each member of these lists ruled out a system of the matrix
abbrev pub ArePastCuts : Mat → List PastCuts → Type 0
ArePastCuts a lists = AllByRecursion (λ c. AreAllPast a c.items.items) lists

-- past multipliers rule the system out if they are said to, and are named if they are to be kept
abbrev pub IsKnown : Mat → List Kind → Bool → Known → Type 0
IsKnown a kinds keeps Open = Unit {0}
IsKnown a kinds keeps RuledOut = (u : List ℤ) × (keeps ≡ false) × IsSmallCut a kinds u
IsKnown a kinds keeps (RuledOutBy u) = IsSmallCut a kinds u.value.list
