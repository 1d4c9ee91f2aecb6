use Rattle.crn_indep_text.proofs.Prelude.{◌-◌, ◌∷◌, [], arith, slice_index_or, err_from_is_err_and, free_form, step_exits, words}
use Rattle.crn_indep_text.proofs.LinesRead.{rows_none, rows_stop, rows_then}
use Rattle.crn_indep_text.proofs.lines.+next_rows.Goals as goal

pub returns-then-count-eq0-clause-step : goal.returns-then-count-eq0-clause-step
returns-then-count-eq0-clause-step g t c =
    rows_none (free_form (slice_index_or words c.args.word []) c.args.width ∷ []) c.args.width c.args.count c.args.into.now c.args.at.now _ (omega (arith, c.if-count-eq0.true))

pub returns-in_err-push_row-clause-step : goal.returns-in_err-push_row-clause-step
returns-in_err-push_row-clause-step g t c =
    step_exits _ _ c.from_residual.result _ _ _ _ _ (err_from_is_err_and c.from_residual.result c.from_residual.ensures.1)
    (rows_stop (free_form (slice_index_or words c.args.word []) c.args.width ∷ []) c.args.count _ c.args.at.now _ _ (λ e. omega (arith, e, c.if-count-eq0.false)) c.in_err-push_row.ensures.step)

pub returns-clause-step : goal.returns-clause-step
returns-clause-step g t c =
    let s = c.in_ok-push_row.ensures.step in
    rows_then (free_form (slice_index_or words c.args.word []) c.args.width ∷ []) c.args.width c.args.count (c.args.count - 1) c.args.into.now c.push_row.new.into c.next_rows.new.into s.0 c.next_rows.result c.args.at.now c.push_row.new.at c.next_rows.new.at _ _ _
    (omega (arith, c.if-count-eq0.false)) (s.2, s.3) s.1.0 s.1.1 c.in_ok-push_row.ensures.line c.next_rows.ensures.step
