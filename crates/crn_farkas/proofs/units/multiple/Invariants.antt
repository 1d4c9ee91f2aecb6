use Rattle.crn_farkas.proofs.Prelude.{◌≤◌}
use Rattle.crn_farkas.proofs.units.multiple.Given as goal

abbrev pub invariant-loop-e : goal.invariant-loop-e
invariant-loop-e l = record {
  some : 1 ≤ l.l;
}
