use Rattle.crn_siphon_text.proofs.Prelude.{arith, err_from_is_err_and, step_exits}
use Rattle.crn_siphon_text.proofs.VerdictsRead.{answer_stop, answer_yes, answer_no, answer_open}
use Rattle.crn_siphon_text.proofs.verify.next_answer.Goals as goal

pub returns-in_err-place-clause-step : goal.returns-in_err-place-clause-step
returns-in_err-place-clause-step g c =
    step_exits _ _ c.from_residual.result _ _ _ _ _ (err_from_is_err_and c.from_residual.result c.from_residual.ensures.1)
    (answer_stop c.args.net.now _ c.args.at.now _ _ c.in_err-place.ensures.step)

pub returns-then-place-eq0-clause-step : goal.returns-then-place-eq0-clause-step
returns-then-place-eq0-clause-step g c =
    let s = c.in_ok-place.ensures.step in
    answer_yes c.args.net.now _ s.0 c.next_yes.result c.args.at.now c.next_verdict.new.at c.next_yes.new.at _ _ _ (omega (arith, c.if-place-eq0.true)) s.1 (s.2, s.3) c.in_ok-place.ensures.line c.next_yes.ensures.step

pub returns-then-place-eq1-clause-step : goal.returns-then-place-eq1-clause-step
returns-then-place-eq1-clause-step g c =
    let s = c.in_ok-place.ensures.step in
    answer_no c.args.net.now _ s.0 c.next_no.result c.args.at.now c.next_verdict.new.at c.next_no.new.at _ _ _ (omega (arith, c.if-place-eq1.true)) s.1 (s.2, s.3) c.in_ok-place.ensures.line c.next_no.ensures.step

pub returns-clause-step : goal.returns-clause-step
returns-clause-step g c =
    let s = c.in_ok-place.ensures.step in
    answer_open c.args.net.now _ s.0 c.args.at.now c.next_verdict.new.at _ _ (λ e. omega (arith, e, c.if-place-eq0.false)) (λ e. omega (arith, e, c.if-place-eq1.false)) s.1 (s.2, s.3) c.in_ok-place.ensures.line
