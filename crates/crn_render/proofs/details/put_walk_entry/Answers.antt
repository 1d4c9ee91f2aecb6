use Rattle.crn_render.proofs.Prelude.{err_from_is_err_and, WroteAll-then, WrotePrefix-then, WrotePrefix-more, Wrote-prefix, Wrote-then}
use Rattle.crn_render.proofs.details.put_walk_entry.Goals as goal

pub returns-in_err-put_walk_title : goal.returns-in_err-put_walk_title
returns-in_err-put_walk_title g c =
    let p = err_from_is_err_and c.from_residual.result c.from_residual.ensures.1 in
    Wrote-prefix p.1 (WrotePrefix-more _ (WrotePrefix-more _ c.in_err-put_walk_title.ensures.prefix))

pub returns-in_err-put_walk : goal.returns-in_err-put_walk
returns-in_err-put_walk g c =
    let p = err_from_is_err_and c.from_residual-in_err-put_walk.result c.from_residual-in_err-put_walk.ensures.1 in
    Wrote-prefix p.1 (WrotePrefix-more _ (WrotePrefix-then c.in_ok-put_walk_title.ensures.all c.in_err-put_walk.ensures.prefix))

pub returns : goal.returns
returns g c = Wrote-then (WroteAll-then c.in_ok-put_walk_title.ensures.all c.in_ok-put_walk.ensures.all) c.put_all.ensures.writes
