use Rattle.crn_conc.proofs.Prelude.{ℕ, [], ◌∷◌, ◌+◌, ◌-◌, ◌<◌, ap, ◌∙◌, arith, width}
use Rattle.crn_conc.proofs.SettledLaws.{coordinate_at, coordinates_long, rows_settle}
use Rattle.crn_conc.proofs.problem.TableProblem.row.Goals as goal

pub index-requires : goal.index-requires
index-requires c =
    let p = c.args.self.now in
    omega (arith, coordinates_long p.coordinates.items (width p.matrix.now) p.coordinates_are, c.cols.ensures.count, c.requires.some, c.requires.few)

pub returns : goal.returns
returns c =
    let p = c.args.self.now in
    let last = c.cols.result + (c.args.choices - 1) in
    let inside : last < width p.matrix.now = omega (arith, c.cols.ensures.count, c.requires.some, c.requires.few) in
    rows_settle p.matrix.now c.args.choices last c.from_ref.result.now (omega (arith, c.cols.ensures.count, c.requires.some))
    (c.from_ref.ensures.value ∙ ap (λ (k : ℕ). k ∷ []) (c.index.ensures ∙ coordinate_at p.coordinates.items (width p.matrix.now) last _ p.coordinates_are inside))
