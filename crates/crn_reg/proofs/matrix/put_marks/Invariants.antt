use Rattle.crn_reg.proofs.Prelude.{◌≡◌, ◌++◌, take, AreWithin, label_marks, MAX_AMOUNT}
use Rattle.crn_reg.proofs.matrix.put_marks.Given as goal

abbrev pub invariant-loop-c : goal.invariant-loop-c
invariant-loop-c l = record {
  value : l.entries.items ≡ l.initial.entries.items ++ label_marks (take l.c l.labels) l.class;
  small : AreWithin MAX_AMOUNT l.entries.items;
}
