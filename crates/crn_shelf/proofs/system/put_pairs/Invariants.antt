use Rattle.crn_shelf.proofs.Prelude.{◌≡◌, ◌++◌, take, flat_map, pair_row, AreWithin, MAX_AMOUNT}
use Rattle.crn_shelf.proofs.system.put_pairs.Given as goal

abbrev pub invariant-loop-i : goal.invariant-loop-i
invariant-loop-i l = record {
  value : l.entries.items ≡ l.initial.entries.items ++ flat_map (pair_row l.shape) (take l.i l.shape.pairs);
  small : AreWithin MAX_AMOUNT l.entries.items;
}
