use Rattle.crn_farkas.proofs.Prelude.{◌≡◌, ◌∙◌, List, length, sym, ap, drop, width, KeptTableau, KeptInts, if_ok, IsRowOfSign, AreSignsOf}
use Rattle.std.proofs.Common.{ℤ}
use Rattle.crn_farkas.proofs.Ruling.{signs_of_row}
use Rattle.crn_farkas.proofs.solver.Solver.multipliers.Goals as goal

pub returns-clause-signs : goal.returns-clause-signs
returns-clause-signs c =
    let t = c.self.inside.tableau in
    let row = c.args.cut.now.row in
    let sign = c.args.cut.now.sign in
    let signs = c.put_signs.new.signs in
    let long : length signs ≡ width t.matrix = c.put_signs.ensures.count ∙ c.requires.signs ∙ ap (λ (k : KeptTableau). width k.matrix) (sym c.self.view_is) in
    if_ok (λ (u : KeptInts). (w : List ℤ) × IsRowOfSign t.matrix t.basis row sign w × (drop t.matrix.cols w ≡ u.list)) (λ (u : KeptInts). AreSignsOf t.matrix u.list signs) c.multipliers.result
    (λ u r. signs_of_row t.matrix t.basis row sign u.list signs long c.put_signs.ensures.signs r)
    c.multipliers.ensures.row
