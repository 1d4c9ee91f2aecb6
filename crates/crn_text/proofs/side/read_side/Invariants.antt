use Rattle.crn_text.proofs.PlacesRead.{TermsUpTo, size_left}
use Rattle.crn_text.proofs.side.read_side.Given as goal

abbrev pub invariant-places : goal.invariant-places
invariant-places l = TermsUpTo l.body l.side l.end l.terms.items l.left

abbrev pub decreases-places : goal.decreases-places
decreases-places l = size_left l.left
