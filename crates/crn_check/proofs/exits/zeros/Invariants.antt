use Rattle.crn_check.proofs.Prelude.{◌≡◌, ◌≤◌, take, zeros_in}
use Rattle.crn_check.proofs.exits.zeros.Given as goal

abbrev pub invariant-loop-exit : goal.invariant-loop-exit
invariant-loop-exit l = record {
  is : l.count ≡ zeros_in (take l.exit-index l.exits);
  few : l.count ≤ l.exit-index;
}
