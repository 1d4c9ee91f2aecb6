use Rattle.crn_sign.proofs.Prelude.{ArePastCuts}
use Rattle.crn_sign.proofs.past.empty_cuts.Given as goal

abbrev pub invariant-loop : goal.invariant-loop
invariant-loop l = ArePastCuts l._matrix l.made.items
