use Rattle.crn_tab.proofs.Prelude.{◌≡◌, ◌++◌, ◌+◌, map, take, vec_len, vec_capacity, neg_ℤ}
use Rattle.crn_tab.proofs.start.push_row.Given as goal

abbrev pub invariant-loop-x : goal.invariant-loop-x
invariant-loop-x l = record {
  items : l.rows.items ≡ l.initial.rows.items ++ map neg_ℤ (take l.x-index l.row);
  count : vec_len l.rows ≡ vec_len l.initial.rows + l.x-index;
  room : vec_capacity l.rows ≡ vec_capacity l.fn.rows;
}
