use Rattle.crn_render.proofs.Prelude.{err_from_is_err_and, WroteAll-then, WrotePrefix-then, WrotePrefix-more, Wrote-prefix, Wrote-then}
use Rattle.crn_render.proofs.words.put_question_line.Goals as goal

pub returns-in_err-put_parts : goal.returns-in_err-put_parts
returns-in_err-put_parts g c =
    let p = err_from_is_err_and c.from_residual.result c.from_residual.ensures.1 in
    let first0 = rw c.title.ensures at c.in_err-put_parts.ensures in
    Wrote-prefix p.1 (WrotePrefix-more _ (WrotePrefix-more _ first0.prefix))

pub returns-in_err-put_words : goal.returns-in_err-put_words
returns-in_err-put_words g c =
    let p = err_from_is_err_and c.from_residual-in_err-put_words.result c.from_residual-in_err-put_words.ensures.1 in
    let first0 = rw c.title.ensures at c.in_ok-put_parts.ensures in
    Wrote-prefix p.1 (WrotePrefix-more _ (WrotePrefix-then first0.all c.in_err-put_words.ensures.prefix))

pub returns : goal.returns
returns g c =
    let first0 = rw c.title.ensures at c.in_ok-put_parts.ensures in
    Wrote-then (WroteAll-then first0.all c.in_ok-put_words.ensures.all) c.put_all.ensures.writes
