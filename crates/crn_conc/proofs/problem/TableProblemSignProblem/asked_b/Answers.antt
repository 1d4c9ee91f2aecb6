use Rattle.crn_conc.proofs.Prelude.{ℕ, ◌-◌, ◌<◌, ◌≤◌, length, sym, ap, ◌∙◌, arith, kind_at, row_kinds, column_in_b, row_in_b}
use Rattle.crn_conc.proofs.problem.TableProblemSignProblem.asked_b.Goals as goal

pub returns-then-k-cols : goal.returns-then-k-cols
returns-then-k-cols c =
    let p = c.args.self.now in
    column_in_b p.matrix.now c.args.prefix.now c.args.k (omega (arith, c.if-k-cols.true, c.cols-cols.ensures.count))

pub returns-else-k-cols : goal.returns-else-k-cols
returns-else-k-cols c =
    let p = c.args.self.now in
    let n = length p.matrix.now.rows in
    let past : p.matrix.now.cols ≤ c.args.k = omega (arith, c.if-k-cols.false, c.cols-cols.ensures.count) in
    let inside : c.args.k - c.cols-cols.result < n = omega (arith, c.if-k-cols.false, c.cols-cols.ensures.count, c.requires.inside) in
    row_in_b p.matrix.now c.args.prefix.now c.args.k past ∙ ap (λ (x : ℕ). kind_at (row_kinds n c.args.prefix.now) (c.args.k - x)) (sym c.cols-cols.ensures.count) ∙ c.asked_of_row.ensures n inside
