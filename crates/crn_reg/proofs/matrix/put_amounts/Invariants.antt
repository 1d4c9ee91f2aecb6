use Rattle.crn_reg.proofs.Prelude.{◌≡◌, ◌++◌, length, take, flat_map, range_with_len, AreWithin, column, MAX_AMOUNT}
use Rattle.crn_reg.proofs.matrix.put_amounts.Given as goal

abbrev pub invariant-loop-s : goal.invariant-loop-s
invariant-loop-s l = record {
  value : l.entries.items ≡ l.initial.entries.items ++ flat_map (column l.net.complexes) (take l.s (range_with_len 0 (length l.net.names)));
  small : AreWithin MAX_AMOUNT l.entries.items;
}
