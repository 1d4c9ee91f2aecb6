use Rattle.crn_shelf.proofs.Prelude.{List, [], ◌∷◌, ◌++◌, sym, ap, ◌∙◌, arith, drop_all, length-append, Sign, kinds_b_of, kind_at}
use Rattle.crn_shelf.proofs.problem.ShelfProblem.none.Goals as goal

pub returns : goal.returns
returns c = λ p s k le lt out.
    let problem = c.args.self.now in
    let shelves = problem.shape.now.count in
    ap (λ (r : List Sign). kind_at (kinds_b_of problem.matrix r) k)
    (drop_all shelves (p ++ s ∷ []) (omega (arith, le, c.requires, length-append p (s ∷ []))) ∙ sym (drop_all shelves p (omega (arith, le, c.requires))))
