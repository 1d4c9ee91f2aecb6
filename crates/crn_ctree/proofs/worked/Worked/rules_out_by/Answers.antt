use Rattle.crn_ctree.proofs.Prelude.{◌≡◌, true, length, refl, ap, subst, ◌∙◌, IsTrue, ◌↔◌, Fits, Said, width, Net, Mat, is_cut, KeptCut, KeptCuts, problem_of, Problem, kinds_of, matrix_of, AreBelow, row_spots}
use Rattle.crn_ctree.proofs.SpotLaws.{cut_fits, cut_is, row_below, row_tells}
use Rattle.crn_ctree.proofs.worked.Worked.rules_out_by.Goals as goal

pub rule-requires : goal.rule-requires
rule-requires c =
    let k = c.args.self.now in
    let w = c.cut.inside in
    let same : matrix_of w.net.now w.problem w.part ≡ matrix_of k.net k.problem w.part =
    ap (λ (n : Net). matrix_of n w.problem w.part) (ap (λ (v : KeptCut). v.net) c.cut.view_is ∙ c.requires.net)
    ∙ ap (λ (q : Problem). matrix_of k.net q w.part) (ap (λ (v : KeptCut). v.problem) c.cut.view_is ∙ c.requires.problem) in
    subst (λ (a : Mat). AreBelow (width a) c.as_slice.result.now) same
    (row_below (matrix_of w.net.now w.problem w.part) w.numbers.list c.as_slice.result.now c.cut.invariant.0 (c.as_slice.ensures ∙ c.cut.invariant.1))

pub returns-clause-fits : goal.returns-clause-fits
returns-clause-fits c =
    let k = c.args.self.now in
    let w = c.cut.inside in
    let p = c.args.prefix.now in
    let same : matrix_of w.net.now w.problem w.part ≡ matrix_of k.net k.problem w.part =
    ap (λ (n : Net). matrix_of n w.problem w.part) (ap (λ (v : KeptCut). v.net) c.cut.view_is ∙ c.requires.net)
    ∙ ap (λ (q : Problem). matrix_of k.net q w.part) (ap (λ (v : KeptCut). v.problem) c.cut.view_is ∙ c.requires.problem) in
    let inside : length (kinds_of k.net c.self.inside.problem w.part p) ≡ width (matrix_of k.net c.self.inside.problem w.part) = c.system_of.ensures.kinds k.net p ∙ ap (λ (a : Mat). width a) (c.system_of.ensures.matrix k.net) in
    let long : length (kinds_of k.net k.problem w.part p) ≡ width (matrix_of k.net k.problem w.part) = subst (λ (q : Problem). length (kinds_of k.net q w.part p) ≡ width (matrix_of k.net q w.part)) (ap (λ (kept : KeptCuts). kept.problem) c.self.view_is) inside in
    let count = c.cut.invariant.0 ∙ ap (λ (a : Mat). length a.rows) same in
    let row = c.as_slice.ensures ∙ c.cut.invariant.1 ∙ ap (λ (a : Mat). row_spots a w.numbers.list) same in
    subst (λ (said : Said). IsTrue c.rule.result ↔ Fits (problem_of k.net k.problem) p said) (ap (λ (v : KeptCut). v.said) c.cut.view_is)
    (cut_fits k.net k.problem w.part p w.numbers.list c.rule.result
    (row_tells k.net k.problem w.part w.part p w.numbers.list c.as_slice.result.now c.rule.result refl count row long c.rule.ensures))

pub returns-clause-cut : goal.returns-clause-cut
returns-clause-cut c = subst (λ (said : Said). is_cut said ≡ true) (ap (λ (v : KeptCut). v.said) c.cut.view_is) (cut_is c.cut.inside.part c.cut.inside.numbers.list)
