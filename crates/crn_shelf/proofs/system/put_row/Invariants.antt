use Rattle.crn_shelf.proofs.Prelude.{◌≡◌, ◌++◌, take, AreWithin, MAX_AMOUNT}
use Rattle.crn_shelf.proofs.system.put_row.Given as goal

abbrev pub invariant-loop-s : goal.invariant-loop-s
invariant-loop-s l = record {
  value : l.entries.items ≡ l.initial.entries.items ++ take l.s l.row;
  small : AreWithin MAX_AMOUNT l.entries.items;
}
