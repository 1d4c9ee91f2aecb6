use Rattle.crn_conc.proofs.Prelude.{◌≡◌, length, take, flat_map, range_with_len, AreWithin, column, vectors, MAX_AMOUNT}
use Rattle.crn_conc.proofs.system.entries_by_species.Given as goal

abbrev pub invariant-loop-s : goal.invariant-loop-s
invariant-loop-s l = record {
  value : l.entries.items ≡ flat_map (column (vectors l.net)) (take l.s (range_with_len 0 (length l.net.names)));
  small : AreWithin MAX_AMOUNT l.entries.items;
}
