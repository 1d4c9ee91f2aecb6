use Rattle.crn_sign.proofs.Prelude.{List, sym, subst, ◌∙◌, Kind, Mat, IsSolution}
use Rattle.crn_sign.proofs.part.Part.solution.Goals as goal

pub unreachable-requires : goal.unreachable-requires
unreachable-requires c =
    let kinds : List Kind = c.deref.result.now in
    let d = rw c.in-Ok-Infeasible.field-0-is at c.in-Ok-Infeasible.ensures.answer in
    let x = c.requires.some.0 in
    let here = subst (λ (ks : List Kind). IsSolution c.args.matrix.now ks x) (sym (c.deref.ensures.value ∙ c.ask.ensures.kinds)) c.requires.some.1 in
    let s = subst (λ (a : Mat). IsSolution a kinds x) (sym c.requires.part.finder.matrix) here in
    c.cuts_exclude_solutions.ensures c.args.self.now.finder.solver.matrix kinds c.in-Ok-Infeasible.field-0-0.list x d.cut s
