use Rattle.crn_shape.proofs.Prelude.{◌≡◌, ◌≤◌, zeros_below}
use Rattle.crn_shape.proofs.tops.zeros_below.Given as goal

abbrev pub invariant-loop-k : goal.invariant-loop-k
invariant-loop-k l = record {
  count : l.count ≡ zeros_below l.exits l.k;
  few : l.count ≤ l.k;
}
