use Rattle.crn_render.proofs.Prelude.{err_from_is_err_and, WroteAll-then, WrotePrefix-then, WrotePrefix-more, Wrote-prefix, Wrote-then}
use Rattle.crn_render.proofs.details.put_reaction_entry.Goals as goal

pub returns-in_err-put_number : goal.returns-in_err-put_number
returns-in_err-put_number g c =
    let p = err_from_is_err_and c.from_residual.result c.from_residual.ensures.1 in
    Wrote-prefix p.1 (WrotePrefix-more _ (WrotePrefix-more _ c.in_err-put_number.ensures.prefix))

pub returns-in_err-put_reaction : goal.returns-in_err-put_reaction
returns-in_err-put_reaction g c =
    let p = err_from_is_err_and c.from_residual-in_err-put_reaction.result c.from_residual-in_err-put_reaction.ensures.1 in
    Wrote-prefix p.1 (WrotePrefix-more _ (WrotePrefix-then c.in_ok-put_number.ensures.all c.in_err-put_reaction.ensures.prefix))

pub returns : goal.returns
returns g c = Wrote-then (WroteAll-then c.in_ok-put_number.ensures.all c.in_ok-put_reaction.ensures.all) c.put_all.ensures.writes
