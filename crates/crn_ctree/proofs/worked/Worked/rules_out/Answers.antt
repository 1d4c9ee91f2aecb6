use Rattle.crn_ctree.proofs.Prelude.{◌≡◌, ◌-◌, [], length, get_or, sym, ap, subst, ◌∙◌, width, Mat, KeptCuts, place_of, Part, Problem, kinds_of, matrix_of, part_of, AreBelow}
use Rattle.crn_ctree.proofs.SpotLaws.{row_below, row_tells}
use Rattle.crn_ctree.proofs.worked.Worked.rules_out.Goals as goal

pub rule-requires : goal.rule-requires
rule-requires c =
    let k = c.args.self.now in
    let u = get_or k.table (place_of c.args.cut - 1) [] in
    subst (λ (p : Part). AreBelow (width (matrix_of k.net k.problem p)) c.row.result.now) (sym c.part-part.ensures)
    (row_below (matrix_of k.net k.problem (part_of c.args.cut)) u c.row.result.now c.requires.shape c.row.ensures)

pub returns : goal.returns
returns c =
    let k = c.args.self.now in
    let u = get_or k.table (place_of c.args.cut - 1) [] in
    let part = c.part-part.result in
    let p = c.args.prefix.now in
    let inside : length (kinds_of k.net c.self.inside.problem part p) ≡ width (matrix_of k.net c.self.inside.problem part) = c.system_of.ensures.kinds k.net p ∙ ap (λ (a : Mat). width a) (c.system_of.ensures.matrix k.net) in
    let long : length (kinds_of k.net k.problem part p) ≡ width (matrix_of k.net k.problem part) = subst (λ (q : Problem). length (kinds_of k.net q part p) ≡ width (matrix_of k.net q part)) (ap (λ (kept : KeptCuts). kept.problem) c.self.view_is) inside in
    row_tells k.net k.problem (part_of c.args.cut) part p u c.row.result.now c.rule.result c.part-part.ensures c.requires.shape c.row.ensures long c.rule.ensures
