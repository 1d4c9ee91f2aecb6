use Rattle.crn_render.proofs.Prelude.{◌≡◌, ◌<◌, ◌+◌, ◌-◌, ℕ, [], length, get_or, ap, arith, err_from_is_err_and, WroteAll-step, WrotePrefix-step, Wrote-all, Wrote-prefix, built, Q1, some_number, few_numbers}
use Rattle.crn_render.proofs.Readings.{verdicts_count, all_readable, got_here, questions_step, questions_whole, questions_all}
use Rattle.crn_render.proofs.report.put_questions.Goals as goal

pub question_number-asked-requires-clause-built : goal.question_number-asked-requires-clause-built
question_number-asked-requires-clause-built g c = omega (arith, verdicts_count c.args.net.now [] built c.args.verdicts.now c.requires)

pub overflow_sub-asked : goal.overflow_sub-asked
overflow_sub-asked g c = omega (arith, c.question_number-asked.ensures, some_number (get_or built (c.loop-place.place + 1 - 1) Q1))

pub put_question-requires-clause-place : goal.put_question-requires-clause-place
put_question-requires-clause-place g c = omega (arith, c.question_number-asked.ensures, some_number (get_or built (c.loop-place.place + 1 - 1) Q1), few_numbers (get_or built (c.loop-place.place + 1 - 1) Q1))

pub put_question-requires-clause-inside : goal.put_question-requires-clause-inside
put_question-requires-clause-inside g c =
    let lt : c.loop-place.place < length c.args.verdicts.now = omega arith in
    rw (got_here c.args.verdicts.now c.loop-place.place c.get.result.now c.get.ensures) at (all_readable c.args.net.now [] built c.args.verdicts.now c.loop-place.place c.requires lt)

pub loop-place-preserved : goal.loop-place-preserved
loop-place-preserved g c =
    let same : length c.args.verdicts.now ≡ length built = verdicts_count c.args.net.now [] built c.args.verdicts.now c.requires in
    let lt : c.loop-place.place < length built = omega arith in
    WroteAll-step (questions_step c.args.net.now c.args.verdicts.now c.loop-place.place (c.question_number-asked.result - 1) c.get.result.now (ap (λ (n : ℕ). n - 1) c.question_number-asked.ensures) lt same (got_here c.args.verdicts.now c.loop-place.place c.get.result.now c.get.ensures)) c.loop-place.invariant c.in_ok-put_question.ensures.all

pub returns-in_err-put_question : goal.returns-in_err-put_question
returns-in_err-put_question g c =
    let same : length c.args.verdicts.now ≡ length built = verdicts_count c.args.net.now [] built c.args.verdicts.now c.requires in
    let lt : c.loop-place.place < length built = omega arith in
    let p = err_from_is_err_and c.from_residual.result c.from_residual.ensures.1 in
    Wrote-prefix p.1 (WrotePrefix-step _ (questions_whole c.args.net.now c.args.verdicts.now c.loop-place.place (c.question_number-asked.result - 1) c.get.result.now (ap (λ (n : ℕ). n - 1) c.question_number-asked.ensures) lt same (got_here c.args.verdicts.now c.loop-place.place c.get.result.now c.get.ensures)) c.loop-place.invariant c.in_err-put_question.ensures.prefix)

pub returns : goal.returns
returns g c =
    let same : length c.args.verdicts.now ≡ length built = verdicts_count c.args.net.now [] built c.args.verdicts.now c.requires in
    Wrote-all (rw (questions_all c.args.verdicts.now c.loop-place.place same (omega arith)) at c.loop-place.invariant)
