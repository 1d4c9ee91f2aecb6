use Rattle.crn_robust_text.proofs.Prelude.{err_from_is_err_and, WroteAll-then, stops_first, stops_later, ends_with, blocks_of, said_of}
use Rattle.crn_robust_text.proofs.Written.{document_first, document_second, document_parts}
use Rattle.crn_robust_text.proofs.write.write_robust.Goals as goal

pub returns-in_err-put_part_opening : goal.returns-in_err-put_part_opening
returns-in_err-put_part_opening g c =
    let p = err_from_is_err_and c.from_residual.result c.from_residual.ensures.1 in
    stops_first _ (document_first c.args.net.now (said_of c.args.net.now (blocks_of c.args.blocks.now) c.args.answer.now)) p.1 c.in_err-put_part_opening.ensures.prefix

pub returns-in_err-put_blocks : goal.returns-in_err-put_blocks
returns-in_err-put_blocks g c =
    let p = err_from_is_err_and c.from_residual-in_err-put_blocks.result c.from_residual-in_err-put_blocks.ensures.1 in
    stops_later _ (document_second c.args.net.now (said_of c.args.net.now (blocks_of c.args.blocks.now) c.args.answer.now)) p.1 c.in_ok-put_part_opening.ensures.all c.in_err-put_blocks.ensures.prefix

pub returns-in_err-put_case : goal.returns-in_err-put_case
returns-in_err-put_case g c =
    let p = err_from_is_err_and c.from_residual-in_err-put_case.result c.from_residual-in_err-put_case.ensures.1 in
    stops_later _ (document_parts c.args.net.now (said_of c.args.net.now (blocks_of c.args.blocks.now) c.args.answer.now)) p.1 (WroteAll-then c.in_ok-put_part_opening.ensures.all c.in_ok-put_blocks.ensures.all) c.in_err-put_case.ensures.prefix

pub returns : goal.returns
returns g c = ends_with (document_parts c.args.net.now (said_of c.args.net.now (blocks_of c.args.blocks.now) c.args.answer.now)) (WroteAll-then (WroteAll-then c.in_ok-put_part_opening.ensures.all c.in_ok-put_blocks.ensures.all) c.in_ok-put_case.ensures.all) c.put_all.ensures.writes
