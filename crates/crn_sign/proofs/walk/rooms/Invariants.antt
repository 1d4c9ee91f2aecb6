use Rattle.crn_sign.proofs.Prelude.{◌≡◌, length, AllByRecursion, HasRooms}
use Rattle.crn_sign.proofs.walk.rooms.Given as goal

abbrev pub invariant-loop : goal.invariant-loop
invariant-loop g l = record {
  count : length l.levels.items ≡ l.counter;
  each : AllByRecursion (HasRooms (g.P.SignProblem.signed l.problem)) l.levels.items;
}
