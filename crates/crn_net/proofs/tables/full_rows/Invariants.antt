use Rattle.crn_net.proofs.Prelude.{◌≡◌, length, take, vectors_of}
use Rattle.crn_net.proofs.tables.full_rows.Given as goal

abbrev pub invariant-loop-c : goal.invariant-loop-c
invariant-loop-c l = record {
  count : length l.made.items ≡ l.c;
  are : vectors_of l.species l.made.items ≡ vectors_of l.species (take l.c l.rows);
}
