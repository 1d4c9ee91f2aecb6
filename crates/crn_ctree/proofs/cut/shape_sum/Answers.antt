use Rattle.crn_ctree.proofs.Prelude.{◌≡◌, ◌≤◌, ◌<◌, ◌*◌, ◌+◌, ◌∙◌, length, take, get_or, ap, sym, arith, to_z, of_z, take_all, ℤ, pos, ◌+ℤ◌, ◌*ℤ◌, unsigned_abs, w128, *ℤ_comm, dot, column, entry, shelf_matrix, MAX_AMOUNT, WIDE_SOLUTION, held, sum_within, dot_step, next_sum, dot-comm, all_at, entry-column, length-column, IsNarrow}
use Rattle.crn_ctree.proofs.cut.shape_sum.Goals as goal

pub times-sum-requires-clause-x : goal.times-sum-requires-clause-x
times-sum-requires-clause-x c =
    let u = c.args.u.now in
    let lt : c.loop-row.row < length u = omega (arith, c.requires.numbers.long, c.loop-row-test.true, c.rows-row-end.ensures.count) in
    let narrow : IsNarrow (get_or u c.loop-row.row (pos 0)) = all_at IsNarrow u c.loop-row.row (pos 0) c.requires.numbers.each lt in
    omega (arith, narrow)

pub loop-row-preserved : goal.loop-row-preserved
loop-row-preserved c =
    let s = to_z w128 c.loop-row.sum-bits in
    let p = c.times-sum.result in
    let rows = (shelf_matrix c.args.shape.now).rows in
    let col = column rows c.args.j in
    let u = c.args.u.now in
    let r = c.loop-row.row in
    let inside : r < length rows = omega (arith, c.loop-row-test.true, c.rows-row-end.ensures.count) in
    let in_col : r < length col = omega (arith, inside, length-column rows c.args.j) in
    let in_u : r < length u = omega (arith, inside, c.requires.numbers.long) in
    let bound : unsigned_abs (s +ℤ p) ≤ r * (MAX_AMOUNT * WIDE_SOLUTION) + MAX_AMOUNT * WIDE_SOLUTION =
    sum_within s p (r * (MAX_AMOUNT * WIDE_SOLUTION)) (MAX_AMOUNT * WIDE_SOLUTION) c.loop-row.invariant.1 c.times-sum.ensures.small in
    let kept : to_z w128 (of_z w128 c.entry.result) ≡ c.entry.result = held c.entry.result (omega (arith, c.entry.ensures.small)) in
    let product : p ≡ entry col r *ℤ entry u r = c.times-sum.ensures.value ∙ *ℤ_comm (entry u r) (to_z w128 (of_z w128 c.entry.result)) ∙ ap (λ (x : ℤ). x *ℤ entry u r) (kept ∙ c.entry.ensures.value ∙ sym (entry-column rows c.args.j r)) in
    let next : dot (take (r + 1) col) (take (r + 1) u) ≡ s +ℤ p = dot_step col u r in_col in_u ∙ next_sum c.loop-row.invariant.0 product in
    rw (held p (omega (arith, c.times-sum.ensures.small)), held (s +ℤ p) (omega (arith, bound, inside, c.rows-row-end.ensures.count, c.rows-row-end.ensures.limit))) (sym next, omega (arith, bound))

pub returns : goal.returns
returns c =
    let rows = (shelf_matrix c.args.shape.now).rows in
    let col = column rows c.args.j in
    let u = c.args.u.now in
    (rw (take_all c.loop-row.row col (omega (arith, length-column rows c.args.j, c.loop-row-test.false, c.loop-row.auto.row-end, c.rows-row-end.ensures.count)), take_all c.loop-row.row u (omega (arith, c.requires.numbers.long, c.loop-row-test.false, c.loop-row.auto.row-end, c.rows-row-end.ensures.count))) at c.loop-row.invariant.0)
    ∙ dot-comm col u
