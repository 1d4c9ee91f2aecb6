use Rattle.crn_check.proofs.Prelude.{◌↔◌}
use Rattle.crn_check.proofs.Rounds.{Leads}
use Rattle.crn_check.proofs.ways.leads_round.Given as goal

-- the walk leads to its end if and only if the complexes from here on do
abbrev pub invariant-loop-k : goal.invariant-loop-k
invariant-loop-k l = Leads l.net l.y l.z l.walk 1 l.y ↔ Leads l.net l.y l.z l.walk l.k l.at
