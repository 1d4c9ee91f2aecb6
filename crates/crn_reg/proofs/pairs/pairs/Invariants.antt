use Rattle.crn_reg.proofs.Prelude.{◌≡◌, pairs_to}
use Rattle.crn_reg.proofs.pairs.pairs.Given as goal

abbrev pub invariant-loop-r : goal.invariant-loop-r
invariant-loop-r l = l.pairs.items ≡ pairs_to l.net l.strong.label.list l.strong.exit.list l.r
