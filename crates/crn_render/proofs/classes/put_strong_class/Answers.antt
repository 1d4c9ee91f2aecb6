use Rattle.crn_render.proofs.Prelude.{err_from_is_err_and, WroteAll-then, WrotePrefix-then, WrotePrefix-more, Wrote-prefix, Wrote-then, strong_line}
use Rattle.crn_render.proofs.classes.put_strong_class.Goals as goal

pub returns-in_err-put_number : goal.returns-in_err-put_number
unfolding strong_line
returns-in_err-put_number g c =
    let p = err_from_is_err_and c.from_residual.result c.from_residual.ensures.1 in
    Wrote-prefix p.1 (WrotePrefix-more _ (WrotePrefix-more _ c.in_err-put_number.ensures.prefix))

pub returns-in_err-put_strong_members : goal.returns-in_err-put_strong_members
unfolding strong_line
returns-in_err-put_strong_members g c =
    let p = err_from_is_err_and c.from_residual-in_err-put_strong_members.result c.from_residual-in_err-put_strong_members.ensures.1 in
    Wrote-prefix p.1 (WrotePrefix-more _ (WrotePrefix-then c.in_ok-put_number.ensures.all c.in_err-put_strong_members.ensures.prefix))

pub returns : goal.returns
unfolding strong_line
returns g c = Wrote-then (WroteAll-then c.in_ok-put_number.ensures.all c.in_ok-put_strong_members.ensures.all) c.put_all.ensures.writes
