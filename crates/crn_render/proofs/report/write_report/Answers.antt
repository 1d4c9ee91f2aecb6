use Rattle.crn_render.proofs.Prelude.{err_from_is_err_and, WroteAll-then, WrotePrefix-then, WrotePrefix-more, Wrote-prefix, Wrote-then}
use Rattle.crn_render.proofs.report.write_report.Goals as goal

pub returns-in_err-put_head : goal.returns-in_err-put_head
returns-in_err-put_head g c =
    let p = err_from_is_err_and c.from_residual.result c.from_residual.ensures.1 in
    Wrote-prefix p.1 (WrotePrefix-more _ (WrotePrefix-more _ c.in_err-put_head.ensures.prefix))

pub returns-in_err-put_questions : goal.returns-in_err-put_questions
returns-in_err-put_questions g c =
    let p = err_from_is_err_and c.from_residual-in_err-put_questions.result c.from_residual-in_err-put_questions.ensures.1 in
    Wrote-prefix p.1 (WrotePrefix-more _ (WrotePrefix-then c.in_ok-put_head.ensures.all c.in_err-put_questions.ensures.prefix))

pub returns : goal.returns
returns g c =
    let first2 = rw c.open_questions.ensures at c.put_open_line.ensures in
    Wrote-then (WroteAll-then c.in_ok-put_head.ensures.all c.in_ok-put_questions.ensures.all) first2
