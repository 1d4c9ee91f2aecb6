use Rattle.crn_tab.proofs.Prelude.{IsIdentity}
use Rattle.crn_tab.proofs.start.identity.Given as goal

abbrev pub invariant-loop-k : goal.invariant-loop-k
invariant-loop-k l = IsIdentity l.k l.v.items
