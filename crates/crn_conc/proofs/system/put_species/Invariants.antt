use Rattle.crn_conc.proofs.Prelude.{◌≡◌, ◌++◌, take, AreWithin, column, vectors, MAX_AMOUNT}
use Rattle.crn_conc.proofs.system.put_species.Given as goal

abbrev pub invariant-loop-r : goal.invariant-loop-r
invariant-loop-r l = record {
  value : l.entries.items ≡ l.initial.entries.items ++ take l.r (column (vectors l.net) l.s);
  small : AreWithin MAX_AMOUNT l.entries.items;
}
