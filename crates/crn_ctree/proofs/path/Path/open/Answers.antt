use Rattle.crn_ctree.proofs.Prelude.{◌≡◌, ◌≢◌, [], ◌++◌, List, sym, ◌∙◌, ap, subst, Sign, children, first, rest, KeptPath, due_by}
use Rattle.crn_ctree.proofs.PathLaws.{open_due}
use Rattle.crn_ctree.proofs.path.Path.open.Goals as goal

pub returns-clause-due : goal.returns-clause-due
returns-clause-due c =
    let e : due_by c.self.inside.complete c.self.inside.options.items ≡ c.args.self.now.due = ap (λ (k : KeptPath). k.due) c.self.view_is in
    let some : due_by c.self.inside.complete c.self.inside.options.items ≢ [] = subst (λ (d : List (List Sign)). d ≢ []) (sym e) c.requires.some in
    ap (λ (p : List Sign). due_by c.self.inside.complete p) c.push_reserved.ensures.items ∙ open_due c.self.inside.complete c.self.inside.options.items some ∙ ap (λ (d : List (List Sign)). children (first d) ++ rest d) e
