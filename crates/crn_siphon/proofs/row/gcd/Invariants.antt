use Rattle.crn_siphon.proofs.row.gcd.Given as goal

abbrev pub decreases-euclid : goal.decreases-euclid
decreases-euclid l = l.b
