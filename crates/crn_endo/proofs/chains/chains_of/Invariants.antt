use Rattle.crn_endo.proofs.Prelude.{◌≤◌, length, AreChains}
use Rattle.crn_endo.proofs.chains.chains_of.Given as goal

abbrev pub invariant-loop-q : goal.invariant-loop-q
invariant-loop-q l = (l.q ≤ length l.net.reactions) × AreChains l.net l.q l.first.items l.next.items

abbrev pub decreases-loop-q : goal.decreases-loop-q
decreases-loop-q l = l.q
