use Rattle.crn_sign.proofs.Prelude.{drop, IsSettling}
use Rattle.crn_sign.proofs.place.settle_b.Given as goal

abbrev pub invariant-loop-i : goal.invariant-loop-i
invariant-loop-i g l = record {
  place : IsSettling (g.P.SignProblem.signed l.problem).matrix_b ((g.P.SignProblem.signed l.problem).kinds_b l.prefix) (drop l.i l.settled) l.place;
}
