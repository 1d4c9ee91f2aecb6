use Rattle.crn_indep_text.proofs.Prelude.{refl, arith, false, err_from_is_err_and, greatest, even_counts, record_within}
use Rattle.crn_indep_text.proofs.AnswersRead.{judge_ok, judge_fails, judge_exits, proof_form}
use Rattle.crn_indep_text.proofs.verify.judged.Goals as goal

pub ranks_of_parts-requires-clause-form : goal.ranks_of_parts-requires-clause-form
ranks_of_parts-requires-clause-form c = let form = c.requires.form.1 in proof_form c.args.net.now c.requires.form.0 c.args.proof.now form.proof_is

pub ranks_of_parts-requires-clause-long : goal.ranks_of_parts-requires-clause-long
ranks_of_parts-requires-clause-long c = let form = c.requires.form.1 in let labels = form.labels_are in labels.long

pub returns-in_err-ranks-in-Ok : goal.returns-in_err-ranks-in-Ok
returns-in_err-ranks-in-Ok c =
    judge_exits c.args.net.now c.args.head c.args.proof.now c.args.label.now c.args.up.now c.args.depth.now c.from_residual.result (err_from_is_err_and c.from_residual.result c.from_residual.ensures.1)

pub returns-in_ok-ranks-in-Ok : goal.returns-in_ok-ranks-in-Ok
returns-in_ok-ranks-in-Ok c =
    let label = c.args.label.now in
    let shown = c.in-Ok.ensures in
    let even = shown.even in
    let ranks = (let h = c.in_ok-ranks-in-Ok.ensures in h (greatest label) (even_counts label even.count even.numbered)) in
    judge_ok c.args.net.now c.args.head c.args.proof.now label c.args.up.now c.args.depth.now (record { undecided = false; ranks = c.in_ok-ranks-in-Ok.ranks }) shown refl ranks

pub overflow_add-result : goal.overflow_add-result
overflow_add-result c =
    omega (arith, record_within c.args.net.now c.requires.form.0 c.args.proof.now c.args.label.now c.args.up.now c.args.depth.now c.in-Err.fault.part c.in-Err.fault.code c.requires.form.1 c.in-Err.ensures, c.requires.head)

pub returns-in-Err : goal.returns-in-Err
returns-in-Err c = judge_fails c.args.net.now c.args.head c.args.proof.now c.args.label.now c.args.up.now c.args.depth.now c.in-Err.fault.part c.in-Err.fault.code c.in-Err.ensures
