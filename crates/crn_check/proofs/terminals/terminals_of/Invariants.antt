use Rattle.crn_check.proofs.Prelude.{◌≡◌, terminals_of}
use Rattle.crn_check.proofs.terminals.terminals_of.Given as goal

abbrev pub invariant-loop-m : goal.invariant-loop-m
invariant-loop-m l = l.count ≡ terminals_of l.strong l.exit l.linkage l.m l.k
