use Rattle.crn_farkas.proofs.Prelude.{◌≡◌, length}
use Rattle.crn_farkas.proofs.units.put_multiples.Given as goal

abbrev pub invariant-loop-e : goal.invariant-loop-e
invariant-loop-e l = record {
  sum : length l.sum ≡ length l.kinds;
}
