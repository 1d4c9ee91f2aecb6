use Rattle.crn_net.proofs.Prelude.{◌≡◌, length, take, map, vectors_of, difference_of}
use Rattle.crn_net.proofs.tables.differences.Given as goal

abbrev pub invariant-loop-r : goal.invariant-loop-r
invariant-loop-r l = record {
  count : length l.made.items ≡ l.r;
  are : vectors_of l.species l.made.items ≡ map (difference_of (vectors_of l.species l.rows)) (take l.r l.reactions);
}
