-- For the contracts of private functions alone.
-- The places at which the multipliers of a cut are not zero.
use Rattle.std.specs.Prelude.{ℕ, ℤ, List}
use Rattle.crn_vec.specs.Skips.{AreSkips}
use Rattle.crn_ctree.specs.declared.cut.System.{System}
use Rattle.crn_ctree.specs.declared.cut.System.TheVariants.{Reactions, Shelves}

-- such places of the multipliers of the system of the reaction vectors; those of the other one need
-- none
abbrev pub FitSkips : System → List ℤ → List ℕ → Type 0
FitSkips Reactions u skips = AreSkips u skips
FitSkips (Shelves shape) u skips = Unit {0}
