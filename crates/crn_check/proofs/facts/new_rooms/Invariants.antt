use Rattle.crn_check.proofs.Prelude.{◌≡◌, length, AllByRecursion, IsRoom}
use Rattle.crn_check.proofs.facts.new_rooms.Given as goal

-- there are so many rooms so far
abbrev pub invariant-loop-k : goal.invariant-loop-k
invariant-loop-k l = record { count : length l.rooms.items ≡ l.k; each : AllByRecursion IsRoom l.rooms.items }
