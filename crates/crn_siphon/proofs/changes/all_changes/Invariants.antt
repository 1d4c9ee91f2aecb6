use Rattle.crn_siphon.proofs.Prelude.{AreChanges}
use Rattle.crn_siphon.proofs.changes.all_changes.Given as goal

abbrev pub invariant-loop-r : goal.invariant-loop-r
invariant-loop-r l = AreChanges l.net l.r l.all.items
