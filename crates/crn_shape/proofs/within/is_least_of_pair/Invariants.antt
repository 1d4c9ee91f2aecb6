use Rattle.crn_shape.proofs.Prelude.{◌≡◌, false, list_any, range_with_len}
use Rattle.crn_shape.proofs.Least.{joins_same}
use Rattle.crn_shape.proofs.within.is_least_of_pair.Given as goal

abbrev pub invariant-loop-q : goal.invariant-loop-q
invariant-loop-q l = list_any (joins_same l.net l.r) (range_with_len 1 l.q) ≡ false
