use Rattle.crn_siphon.proofs.Prelude.{AreAllHolders}
use Rattle.crn_siphon.proofs.ends.all_holders.Given as goal

abbrev pub invariant-loop-s : goal.invariant-loop-s
invariant-loop-s l = AreAllHolders l.net l.s l.all.items
