use Rattle.crn_text.proofs.LineFlaws.{SidesFlawUpTo}
use Rattle.crn_text.proofs.PlacesRead.{size_left}
use Rattle.crn_text.proofs.first_fault.flaw_of_sides.Given as goal

abbrev pub invariant-sides : goal.invariant-sides
invariant-sides l = SidesFlawUpTo l.body l.flaw l.left

abbrev pub decreases-sides : goal.decreases-sides
decreases-sides l = size_left l.left
