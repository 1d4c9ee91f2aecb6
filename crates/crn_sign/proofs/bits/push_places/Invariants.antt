use Rattle.crn_sign.proofs.bits.push_places.Given as goal

abbrev pub decreases-bits : goal.decreases-bits
decreases-bits l = l.rest
