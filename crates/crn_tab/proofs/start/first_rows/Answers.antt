use Rattle.crn_tab.proofs.Prelude.{◌≡◌, ◌≤◌, ◌*◌, ◌+◌, ◌++◌, ℕ, suc, List, length, take, ap, sym, ◌∙◌, arith, suc-mul, mul-le-mul_right, ℤ, start_row, start_rows}
use Rattle.crn_tab.proofs.FirstRows.{start_rows_step}
use Rattle.crn_tab.proofs.start.first_rows.Goals as goal

next : (i w : ℕ) → (i + 1) * w ≡ suc i * w
next i w = ap (λ k. k * w) (let e : i + 1 ≡ suc i = omega arith in e)

pub loop-i-preserved : goal.loop-i-preserved
loop-i-preserved c =
    let rows = c.args.matrix.now.rows in
    let i = c.loop-i.i in
    record {
      items = c.push_row.ensures.items ∙ ap (λ (v : List ℤ). v ++ start_row c.row.result.now) c.loop-i.invariant.items
          ∙ ap (λ (r : List ℤ). start_rows (take i rows) ++ start_row r) c.row.ensures.value
          ∙ sym (start_rows_step rows i (omega (arith, c.loop-i-test.true, c.rows-i-end.ensures.count)));
      count = omega (arith, c.push_row.ensures.count, c.loop-i.invariant.count, c.row.ensures.count, suc-mul i (c.args.matrix.now.cols + 1), next i (c.args.matrix.now.cols + 1));
      room = c.push_row.ensures.room ∙ c.loop-i.invariant.room;
    }

pub loop-i-init : goal.loop-i-init
loop-i-init c = record {
  items = c.in_ok-rows.ensures.items;
  count = omega (arith, c.in_ok-rows.ensures.len);
  room = c.in_ok-rows.ensures.exact ∙ ap (λ k. k * (c.cols.result + 1)) c.rows.ensures.count ∙ ap (λ k. length c.args.matrix.now.rows * (k + 1)) c.cols.ensures.count;
}

pub push_row-requires-clause-room : goal.push_row-requires-clause-room
push_row-requires-clause-room c =
    let i = c.loop-i.i in
    let w = c.args.matrix.now.cols + 1 in
    let le : suc i ≤ length c.args.matrix.now.rows = omega (arith, c.loop-i-test.true, c.rows-i-end.ensures.count) in
    omega (arith, c.loop-i.invariant.count, c.loop-i.invariant.room, c.row.ensures.count, suc-mul i w, mul-le-mul_right w le)
