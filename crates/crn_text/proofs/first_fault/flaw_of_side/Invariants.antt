use Rattle.crn_text.proofs.Flaws.{FlawUpTo}
use Rattle.crn_text.proofs.PlacesRead.{size_left}
use Rattle.crn_text.proofs.first_fault.flaw_of_side.Given as goal

abbrev pub invariant-places : goal.invariant-places
invariant-places l = FlawUpTo l.side l.flaw l.left

abbrev pub decreases-places : goal.decreases-places
decreases-places l = size_left l.left
