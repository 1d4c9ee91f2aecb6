use Rattle.crn_reg.proofs.Prelude.{◌≡◌, ◌++◌, take, AreWithin, column, MAX_AMOUNT}
use Rattle.crn_reg.proofs.matrix.put_species.Given as goal

abbrev pub invariant-loop-c : goal.invariant-loop-c
invariant-loop-c l = record {
  value : l.entries.items ≡ l.initial.entries.items ++ take l.c (column l.net.complexes l.s);
  small : AreWithin MAX_AMOUNT l.entries.items;
}
