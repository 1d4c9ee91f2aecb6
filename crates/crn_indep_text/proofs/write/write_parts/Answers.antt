use Rattle.crn_indep_text.proofs.Prelude.{err_from_is_err_and, WroteAll-then, stops_first, stops_later, ends_with, records}
use Rattle.crn_indep_text.proofs.Written.{document_first, document_parts}
use Rattle.crn_indep_text.proofs.write.write_parts.Goals as goal

pub returns-in_err-put_part_opening : goal.returns-in_err-put_part_opening
returns-in_err-put_part_opening g c =
    let p = err_from_is_err_and c.from_residual.result c.from_residual.ensures.1 in
    stops_first _ (document_first c.args.net.now (records c.args.answer.now)) p.1 c.in_err-put_part_opening.ensures.prefix

pub returns-in_err-put_answer : goal.returns-in_err-put_answer
returns-in_err-put_answer g c =
    let p = err_from_is_err_and c.from_residual-in_err-put_answer.result c.from_residual-in_err-put_answer.ensures.1 in
    stops_later _ (document_parts c.args.net.now (records c.args.answer.now)) p.1 c.in_ok-put_part_opening.ensures.all c.in_err-put_answer.ensures.prefix

pub returns : goal.returns
returns g c = ends_with (document_parts c.args.net.now (records c.args.answer.now)) (WroteAll-then c.in_ok-put_part_opening.ensures.all c.in_ok-put_answer.ensures.all) c.put_all.ensures.writes
