use Rattle.crn_ctext.proofs.Prelude.{◌∙◌, refl, arith, err_from_is_err_and, WroteAll-none, WroteAll-step, Wrote-all, built, question_at}
use Rattle.crn_ctext.proofs.Pieces.{stops_later, wrote_as}
use Rattle.crn_ctext.proofs.WrittenBlocks.{at_question, one_more, leaves_more, one_of, all_done}
use Rattle.crn_ctext.proofs.write.put_answers.Goals as goal

pub loop-k-init : goal.loop-k-init
loop-k-init g c = (WroteAll-none _, refl)

pub loop-k-preserved : goal.loop-k-preserved
loop-k-preserved g c =
    (WroteAll-step (one_more c.args.leaf.now c.loop-k.rest.now c.args.sections c.args.pairs.now built c.args.answers.now c.loop-k.k (question_at c.question_number-question.result) c.get.result.now (omega (arith, c.len-k-end.ensures.count, c.requires)) (at_question c.loop-k.k c.question_number-question.result c.question_number-question.ensures) c.get.ensures c.loop-k.invariant.1) c.loop-k.invariant.0 c.in_ok-rest.ensures.wrote.all, c.in_ok-rest.ensures.rest ∙ leaves_more c.args.leaf.now c.loop-k.rest.now c.args.sections c.args.pairs.now built c.args.answers.now c.loop-k.k (question_at c.question_number-question.result) c.get.result.now (omega (arith, c.len-k-end.ensures.count, c.requires)) (at_question c.loop-k.k c.question_number-question.result c.question_number-question.ensures) c.get.ensures c.loop-k.invariant.1)

pub returns-in_err-rest : goal.returns-in_err-rest
returns-in_err-rest g c =
    let p = err_from_is_err_and c.from_residual.result c.from_residual.ensures.1 in
    let f = one_of c.args.leaf.now c.loop-k.rest.now c.args.sections c.args.pairs.now built c.args.answers.now c.loop-k.k (question_at c.question_number-question.result) c.get.result.now (omega (arith, c.len-k-end.ensures.count, c.requires)) (at_question c.loop-k.k c.question_number-question.result c.question_number-question.ensures) c.get.ensures c.loop-k.invariant.1 in
    stops_later f.0 f.1 p.1 c.loop-k.invariant.0 c.in_err-rest.ensures.wrote.prefix

pub returns : goal.returns
returns g c = wrote_as (all_done c.args.leaf.now c.args.sections c.args.pairs.now built c.args.answers.now c.loop-k.k (omega (arith, c.len-k-end.ensures.count))) (Wrote-all c.loop-k.invariant.0)
