use Rattle.crn_siphon.proofs.Prelude.{AreHolders}
use Rattle.crn_siphon.proofs.ends.holders_at.Given as goal

abbrev pub invariant-loop-r : goal.invariant-loop-r
invariant-loop-r l = AreHolders l.net l.r l.s l.found.items
