use Rattle.crn_check.proofs.Prelude.{◌+◌, HaveOneBefore}
use Rattle.crn_check.proofs.terminals.have_one_to.Given as goal

abbrev pub invariant-loop-k : goal.invariant-loop-k
invariant-loop-k l = HaveOneBefore l.facts.earlier (l.k + 1)
