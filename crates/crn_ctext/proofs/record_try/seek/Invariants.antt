use Rattle.crn_ctext.proofs.Prelude.{◌≡◌, ◌≤◌, ◌-◌, [], length, take, forms_of, AreTried}
use Rattle.crn_ctext.proofs.record_try.seek.Given as goal

abbrev pub invariant-loop-form : goal.invariant-loop-form
invariant-loop-form l = record {
  tried : AreTried l.so_far (take l.i (forms_of l.expect)) l.line;
  within : l.i ≤ length (forms_of l.expect);
  list : l.into.list ≡ [];
  spare : l.into.spare ≡ l.initial.into.spare;
}

abbrev pub decreases-loop-form : goal.decreases-loop-form
decreases-loop-form l = length (forms_of l.expect) - l.i
