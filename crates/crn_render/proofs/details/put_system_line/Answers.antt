use Rattle.crn_render.proofs.Prelude.{err_from_is_err_and, WroteAll-then, WrotePrefix-then, WrotePrefix-more, Wrote-prefix, Wrote-then, system_line}
use Rattle.crn_render.proofs.details.put_system_line.Goals as goal

pub returns-in_err-put_number_after : goal.returns-in_err-put_number_after
unfolding system_line
returns-in_err-put_number_after g c =
    let p = err_from_is_err_and c.from_residual.result c.from_residual.ensures.1 in
    Wrote-prefix p.1 (WrotePrefix-more _ (WrotePrefix-more _ c.in_err-put_number_after.ensures.prefix))

pub returns-in_err-put_system_class : goal.returns-in_err-put_system_class
unfolding system_line
returns-in_err-put_system_class g c =
    let p = err_from_is_err_and c.from_residual-in_err-put_system_class.result c.from_residual-in_err-put_system_class.ensures.1 in
    Wrote-prefix p.1 (WrotePrefix-more _ (WrotePrefix-then c.in_ok-put_number_after.ensures.all c.in_err-put_system_class.ensures.prefix))

pub returns : goal.returns
unfolding system_line
returns g c = Wrote-then (WroteAll-then c.in_ok-put_number_after.ensures.all c.in_ok-put_system_class.ensures.all) c.put_all.ensures.writes
