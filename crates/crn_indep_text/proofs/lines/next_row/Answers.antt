use Rattle.crn_indep_text.proofs.Prelude.{err_from_is_err_and, step_exits}
use Rattle.crn_indep_text.proofs.lines.next_row.Goals as goal

pub returns-in_err-next_of-clause-step : goal.returns-in_err-next_of-clause-step
returns-in_err-next_of-clause-step g c =
    step_exits _ _ c.from_residual.result _ _ _ _ _ (err_from_is_err_and c.from_residual.result c.from_residual.ensures.1) c.in_err-next_of.ensures.step

pub returns-clause-step : goal.returns-clause-step
returns-clause-step g c =
    let s = c.in_ok-next_of.ensures.step in
    (s.0, (let said = s.1 in record { form = said.form; numbers = said.numbers }), s.2, s.3)
