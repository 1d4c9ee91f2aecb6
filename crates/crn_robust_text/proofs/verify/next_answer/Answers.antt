use Rattle.crn_robust_text.proofs.Prelude.{err_from_is_err_and, after_facts, step_exits}
use Rattle.crn_robust_text.proofs.DocumentsRead.{blocks_stop, blocks_then}
use Rattle.crn_robust_text.proofs.verify.next_answer.Goals as goal

pub returns-in_err-facts-clause-step : goal.returns-in_err-facts-clause-step
returns-in_err-facts-clause-step g c =
    step_exits _ _ c.from_residual.result _ _ _ _ _ (err_from_is_err_and c.from_residual.result c.from_residual.ensures.1)
    (blocks_stop c.args.net.now _ c.args.at.now _ _ c.in_err-facts.ensures.step)

pub returns-clause-step : goal.returns-clause-step
returns-clause-step g c =
    let net = c.args.net.now in
    let s = c.in_ok-facts.ensures.step in
    let after = s.1 in
    let mid = c.next_facts.new.at in
    blocks_then net s.0 (after_facts net c.in_ok-facts.facts.earlier mid.line after.0) c.next_verdict.result c.args.at.now mid c.next_verdict.new.at _ _ _ after.1 s.2 s.3 (let h = c.next_verdict.ensures.step in h after.0)
