use Rattle.crn_sign.proofs.Prelude.{◌≡◌, range_with_len}
use Rattle.crn_sign.proofs.problem.coordinates.Given as goal

abbrev pub invariant-loop-k : goal.invariant-loop-k
invariant-loop-k l = l.made.items ≡ range_with_len 0 l.k
