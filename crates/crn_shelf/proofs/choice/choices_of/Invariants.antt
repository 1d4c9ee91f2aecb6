use Rattle.crn_shelf.proofs.Prelude.{◌≡◌, length}
use Rattle.crn_shelf.proofs.Joins.{AreFrom}
use Rattle.crn_shelf.proofs.choice.choices_of.Given as goal

abbrev pub invariant-loop : goal.invariant-loop
invariant-loop l = record {
  count : length l.made.items ≡ l.counter;
  before : length l.before.items ≡ l.counter;
  each : AreFrom l.shape 0 l.made.items;
}
