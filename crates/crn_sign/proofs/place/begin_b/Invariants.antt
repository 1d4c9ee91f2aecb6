use Rattle.crn_sign.proofs.Prelude.{[]}
use Rattle.crn_sign.proofs.PlaceLaws.{IsBegun}
use Rattle.crn_sign.proofs.place.begin_b.Given as goal

abbrev pub invariant-loop-k : goal.invariant-loop-k
invariant-loop-k g l = record {
  here : IsBegun (g.P.SignProblem.signed l.problem).matrix_b ((g.P.SignProblem.signed l.problem).kinds_b []) l.k l.here;
}
