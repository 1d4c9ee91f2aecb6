use Rattle.crn_ctext.proofs.Prelude.{err_from_is_err_and, question_at}
use Rattle.crn_ctext.proofs.Pieces.{stops_first, ends_with}
use Rattle.crn_ctext.proofs.WrittenBlocks.{block_lines, block_leaves}
use Rattle.crn_ctext.proofs.write.put_block.Goals as goal

pub returns-in_err-put_heading-clause-wrote : goal.returns-in_err-put_heading-clause-wrote
returns-in_err-put_heading-clause-wrote g c =
    let p = err_from_is_err_and c.from_residual.result c.from_residual.ensures.1 in
    stops_first _ (block_lines c.args.leaf.now c.args.sections c.args.pairs.now (question_at c.args.question) c.args.answer.now) p.1 c.in_err-put_heading.ensures.prefix

pub returns-clause-wrote : goal.returns-clause-wrote
returns-clause-wrote g c = ends_with (block_lines c.args.leaf.now c.args.sections c.args.pairs.now (question_at c.args.question) c.args.answer.now) c.in_ok-put_heading.ensures.all c.put_answer.ensures.wrote

pub returns-clause-rest : goal.returns-clause-rest
returns-clause-rest g c = rw (block_leaves c.args.leaf.now c.args.sections c.args.pairs.now (question_at c.args.question) c.args.answer.now) c.put_answer.ensures.rest
