use Rattle.crn_check.proofs.Prelude.{◌≡◌, ◌≤◌, take, sum}
use Rattle.crn_check.proofs.one.sum_of.Given as goal

abbrev pub invariant-loop-d : goal.invariant-loop-d
invariant-loop-d l = record {
  is : l.sum ≡ sum (take l.d-index l.classes);
  few : l.sum ≤ l.d-index;
}
