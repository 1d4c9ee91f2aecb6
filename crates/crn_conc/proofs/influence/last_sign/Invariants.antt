use Rattle.crn_conc.proofs.LastSigns.{IsLastOf}
use Rattle.crn_conc.proofs.influence.last_sign.Given as goal

abbrev pub invariant-loop-k : goal.invariant-loop-k
invariant-loop-k l = IsLastOf l.signs l.k l.last
