use Rattle.crn_defi.proofs.Prelude.{◌≡◌, ◌≤◌, take, sum}
use Rattle.crn_defi.proofs.one.sum_of.Given as goal

abbrev pub invariant-loop-deficiency : goal.invariant-loop-deficiency
invariant-loop-deficiency l = record {
  is : l.sum ≡ sum (take l.deficiency-index l.deficiencies);
  few : l.sum ≤ l.deficiency-index;
}
