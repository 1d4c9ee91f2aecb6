use Rattle.crn_render.proofs.Prelude.{err_from_is_err_and, WrotePrefix-more, Wrote-prefix, Wrote-then}
use Rattle.crn_render.proofs.classes.put_strong_members.Goals as goal

pub returns-in_err-put_members : goal.returns-in_err-put_members
returns-in_err-put_members g c =
    let p = err_from_is_err_and c.from_residual.result c.from_residual.ensures.1 in
    Wrote-prefix p.1 (WrotePrefix-more _ c.in_err-put_members.ensures.prefix)

pub returns : goal.returns
returns g c =
    let first1 = rw c.terminal_mark.ensures at c.put_all.ensures.writes in
    Wrote-then c.in_ok-put_members.ensures.all first1
