use Rattle.crn_ctext.proofs.Prelude.{err_from_is_err_and, WroteAll-then, WrotePrefix-then, WrotePrefix-more, Wrote-prefix, question_at, shapes_with, verdict_records, later_records, proof_records, proof_nodes, record_lines, written}
use Rattle.crn_ctext.proofs.Pieces.{ends_with, wrote_as}
use Rattle.crn_ctext.proofs.WrittenBlocks.{answer_lines, answer_leaves}
use Rattle.crn_ctext.proofs.write.put_answer.Goals as goal

pub returns-in_err-put_head-clause-wrote : goal.returns-in_err-put_head-clause-wrote
returns-in_err-put_head-clause-wrote g c =
    let p = err_from_is_err_and c.from_residual.result c.from_residual.ensures.1 in
    wrote_as (answer_lines c.args.leaf.now (question_at c.args.question) (shapes_with c.args.pairs.now) c.args.answer.now) (Wrote-prefix p.1 (WrotePrefix-more (record_lines (written c.args.leaf.now (proof_nodes c.args.answer.now.proof))) (WrotePrefix-more (record_lines (later_records c.args.answer.now.verdict)) (WrotePrefix-more (record_lines (proof_records (shapes_with c.args.pairs.now) c.args.answer.now.proof)) (WrotePrefix-more (record_lines (verdict_records c.args.answer.now.verdict)) c.in_err-put_head.ensures.prefix)))))

pub returns-in_err-put_verdict-clause-wrote : goal.returns-in_err-put_verdict-clause-wrote
returns-in_err-put_verdict-clause-wrote g c =
    let p = err_from_is_err_and c.from_residual-in_err-put_verdict.result c.from_residual-in_err-put_verdict.ensures.1 in
    wrote_as (answer_lines c.args.leaf.now (question_at c.args.question) (shapes_with c.args.pairs.now) c.args.answer.now) (Wrote-prefix p.1 (WrotePrefix-more (record_lines (written c.args.leaf.now (proof_nodes c.args.answer.now.proof))) (WrotePrefix-more (record_lines (later_records c.args.answer.now.verdict)) (WrotePrefix-more (record_lines (proof_records (shapes_with c.args.pairs.now) c.args.answer.now.proof)) (WrotePrefix-then c.in_ok-put_head.ensures.all c.in_err-put_verdict.ensures.prefix)))))

pub returns-in_err-put_proof-clause-wrote : goal.returns-in_err-put_proof-clause-wrote
returns-in_err-put_proof-clause-wrote g c =
    let p = err_from_is_err_and c.from_residual-in_err-put_proof.result c.from_residual-in_err-put_proof.ensures.1 in
    wrote_as (answer_lines c.args.leaf.now (question_at c.args.question) (shapes_with c.args.pairs.now) c.args.answer.now) (Wrote-prefix p.1 (WrotePrefix-more (record_lines (written c.args.leaf.now (proof_nodes c.args.answer.now.proof))) (WrotePrefix-more (record_lines (later_records c.args.answer.now.verdict)) (WrotePrefix-then (WroteAll-then c.in_ok-put_head.ensures.all c.in_ok-put_verdict.ensures.all) c.in_err-put_proof.ensures.prefix))))

pub returns-in_err-put_exits-clause-wrote : goal.returns-in_err-put_exits-clause-wrote
returns-in_err-put_exits-clause-wrote g c =
    let p = err_from_is_err_and c.from_residual-in_err-put_exits.result c.from_residual-in_err-put_exits.ensures.1 in
    wrote_as (answer_lines c.args.leaf.now (question_at c.args.question) (shapes_with c.args.pairs.now) c.args.answer.now) (Wrote-prefix p.1 (WrotePrefix-more (record_lines (written c.args.leaf.now (proof_nodes c.args.answer.now.proof))) (WrotePrefix-then (WroteAll-then (WroteAll-then c.in_ok-put_head.ensures.all c.in_ok-put_verdict.ensures.all) c.in_ok-put_proof.ensures.all) c.in_err-put_exits.ensures.prefix)))

pub returns-clause-wrote : goal.returns-clause-wrote
returns-clause-wrote g c = ends_with (answer_lines c.args.leaf.now (question_at c.args.question) (shapes_with c.args.pairs.now) c.args.answer.now) (WroteAll-then (WroteAll-then (WroteAll-then c.in_ok-put_head.ensures.all c.in_ok-put_verdict.ensures.all) c.in_ok-put_proof.ensures.all) c.in_ok-put_exits.ensures.all) c.put_trees.ensures.wrote

pub returns-clause-rest : goal.returns-clause-rest
returns-clause-rest g c = rw (answer_leaves c.args.leaf.now (question_at c.args.question) (shapes_with c.args.pairs.now) c.args.answer.now) c.put_trees.ensures.rest
