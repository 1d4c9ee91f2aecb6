use Rattle.crn_defi.proofs.Prelude.{length, HaveOneUpTo}
use Rattle.crn_defi.proofs.terminals.first_with_more.Given as goal

abbrev pub invariant-loop-k : goal.invariant-loop-k
invariant-loop-k l = HaveOneUpTo l.strong l.exit l.linkage (length l.exit) l.k
