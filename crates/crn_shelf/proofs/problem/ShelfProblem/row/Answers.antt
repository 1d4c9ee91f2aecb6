use Rattle.crn_shelf.proofs.Prelude.{ℕ, List, [], ◌∷◌, ◌+◌, ◌<◌, drop, ap, ◌∙◌, arith, drop-append-le, length-drop, Sign, kinds_b_of, width, kind_at, coordinate_at, coordinates_long, rows_settle}
use Rattle.crn_shelf.proofs.problem.ShelfProblem.row.Goals as goal

pub overflow_add-k : goal.overflow_add-k
overflow_add-k c = omega (arith, c.cols.ensures.count, c.rows.ensures.count, c.rows.ensures.few, c.requires.inside)

pub index-requires : goal.index-requires
index-requires c =
    let p = c.args.self.now in
    omega (arith, coordinates_long p.coordinates_b.items (width p.matrix) p.coordinates_b_are, c.cols.ensures.count, c.requires.inside)

pub returns : goal.returns
returns c = λ p s j le lt out.
    let problem = c.args.self.now in
    let m = problem.matrix in
    let shelves = problem.shape.now.count in
    let k = c.cols.result + c.args.s in
    let inside : k < width m = omega (arith, c.cols.ensures.count, c.requires.inside) in
    ap (λ (r : List Sign). kind_at (kinds_b_of m r) j) (drop-append-le shelves p (s ∷ []) (omega (arith, le, c.requires.last)))
    ∙ rows_settle m (c.args.s + 1) k c.from_ref.result.now (omega (arith, c.cols.ensures.count))
    (c.from_ref.ensures.value ∙ ap (λ (i : ℕ). i ∷ []) (c.index.ensures ∙ coordinate_at problem.coordinates_b.items (width m) k _ problem.coordinates_b_are inside))
    (drop shelves p) s j (omega (arith, le, c.requires.last, length-drop shelves p)) lt out
