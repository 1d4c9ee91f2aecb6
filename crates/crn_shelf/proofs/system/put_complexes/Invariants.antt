use Rattle.crn_shelf.proofs.Prelude.{◌≡◌, ◌++◌, take, flat_map, AreWithin, complex_row, MAX_AMOUNT}
use Rattle.crn_shelf.proofs.system.put_complexes.Given as goal

abbrev pub invariant-loop-c : goal.invariant-loop-c
invariant-loop-c l = record {
  value : l.entries.items ≡ l.initial.entries.items ++ flat_map complex_row (take l.c l.shape.complexes);
  small : AreWithin MAX_AMOUNT l.entries.items;
}
