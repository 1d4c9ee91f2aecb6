use Rattle.crn_defi.proofs.OneTerminal.{IsOnly}
use Rattle.crn_defi.proofs.terminals.has_one.Given as goal

abbrev pub invariant-loop-c : goal.invariant-loop-c
invariant-loop-c l = IsOnly l.strong l.exit l.linkage l.k l.c l.own
