use Rattle.crn_reg.proofs.Prelude.{◌≡◌, ◌++◌, take, flat_map, range_with_len, AreWithin, label_marks, MAX_AMOUNT}
use Rattle.crn_reg.proofs.matrix.put_classes.Given as goal

abbrev pub invariant-loop-k : goal.invariant-loop-k
invariant-loop-k l = record {
  value : l.entries.items ≡ l.initial.entries.items ++ flat_map (label_marks l.labels) (take l.k (range_with_len 1 l.count));
  small : AreWithin MAX_AMOUNT l.entries.items;
}
