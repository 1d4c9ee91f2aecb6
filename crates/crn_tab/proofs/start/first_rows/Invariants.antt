use Rattle.crn_tab.proofs.Prelude.{◌≡◌, ◌*◌, ◌+◌, length, take, vec_len, vec_capacity, start_rows}
use Rattle.crn_tab.proofs.start.first_rows.Given as goal

abbrev pub invariant-loop-i : goal.invariant-loop-i
invariant-loop-i l = record {
  items : l.rows.items ≡ start_rows (take l.i l.matrix.rows);
  count : vec_len l.rows ≡ l.i * (l.matrix.cols + 1);
  room : vec_capacity l.rows ≡ length l.matrix.rows * (l.matrix.cols + 1);
}
