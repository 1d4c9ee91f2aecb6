use Rattle.crn_shelf.proofs.Prelude.{ℕ, List, ◌-◌, ◌<◌, ◌≤◌, length, drop, sym, ap, ◌∙◌, arith, Sign, kind_at, row_kinds, column_in_b, row_in_b}
use Rattle.crn_shelf.proofs.problem.ShelfProblemSignProblem.asked_b.Goals as goal

pub returns-then-k-cols : goal.returns-then-k-cols
returns-then-k-cols c =
    let p = c.args.self.now in
    column_in_b p.matrix (drop p.shape.now.count c.args.prefix.now) c.args.k (omega (arith, c.if-k-cols.true, c.cols-cols.ensures.count))

pub returns-else-k-cols : goal.returns-else-k-cols
returns-else-k-cols c =
    let p = c.args.self.now in
    let n = length p.matrix.rows in
    let q = drop p.shape.now.count c.args.prefix.now in
    let past : p.matrix.cols ≤ c.args.k = omega (arith, c.if-k-cols.false, c.cols-cols.ensures.count) in
    let inside : c.args.k - c.cols-cols.result < n = omega (arith, c.if-k-cols.false, c.cols-cols.ensures.count, c.requires.inside) in
    row_in_b p.matrix q c.args.k past ∙ ap (λ (x : ℕ). kind_at (row_kinds n q) (c.args.k - x)) (sym c.cols-cols.ensures.count)
    ∙ ap (λ (s : List Sign). kind_at (row_kinds n s) (c.args.k - c.cols-cols.result)) (sym c.signs.ensures) ∙ c.asked_of_row.ensures n inside
