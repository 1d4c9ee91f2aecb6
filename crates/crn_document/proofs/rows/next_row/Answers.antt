use Rattle.crn_document.proofs.Prelude.{◌≡◌, ◌++◌, ◌∷◌, [], false, List, ap, ◌∙◌, ℤ, err_from_is_err_and, StepGives, asks_for, row_form, StopIs, step_exits, memory_stops}
use Rattle.crn_reading.specs.declared.fault.CheckStop.TheVariants as stop
use Rattle.crn_document.proofs.Records.{as_expected, row_said}
use Rattle.crn_document.proofs.rows.next_row.Goals as goal

pub returns-in_err-next_record-clause-step : goal.returns-in_err-next_record-clause-step
returns-in_err-next_record-clause-step g c =
    step_exits _ _ _ _ _ _ _ _ (err_from_is_err_and _ c.from_residual-in_err-next_record.ensures.1)
    (as_expected (λ d. StopIs d c.in_err-next_record.field-0.0 c.args.at.now (g.S.Source.seen c.args.source.now) (g.S.Source.seen c.next_record.new.source)) c.row_expect-expect.result c.args.at.now.version c.args.at.now.line false _ c.row_expect-expect.ensures.due c.in_err-next_record.ensures.step)

pub returns-in_err-push-clause-step : goal.returns-in_err-push-clause-step
returns-in_err-push-clause-step g c =
    let s = c.in_ok-next_record.ensures.step in
    step_exits _ _ _ stop.NoMemory _ _ _ _ (err_from_is_err_and _ c.from_residual-in_err-push.ensures.1)
    (memory_stops (asks_for c.row_expect-expect.result c.args.at.now.line) s.0 c.args.at.now c.next_record.new.at _ _ s.2 s.3 c.in_ok-next_record.ensures.goes.reads)

pub returns-clause-step : goal.returns-clause-step
returns-clause-step g c =
    let s = c.in_ok-next_record.ensures.step in
    let said = row_said c.row_expect-expect.result c.args.at.now.version false (row_form c.args.below.now.net.now c.args.below.now.labels.now c.args.below.now.classes c.args.row) c.row_expect-expect.ensures.due c.row_expect-expect.ensures.untagged s.0 c.next_record.new.at.numbers.list s.1 in
    let list : c.as_slice-2.result.now ≡ s.0.numbers = c.as_slice-2.ensures ∙ said.1 in (
      s.0,
      (said.0, c.in_ok-push.ensures ∙ ap (λ (zs : List ℤ). c.args.into.now ++ zs ∷ []) list),
      as_expected (λ d. StepGives d s.0 c.args.at.now.line c.next_record.new.at.line c.args.at.now.lines c.next_record.new.at.lines (g.S.Source.seen c.args.source.now).left (g.S.Source.seen c.next_record.new.source).left) c.row_expect-expect.result c.args.at.now.version c.args.at.now.line false _ c.row_expect-expect.ensures.due s.2,
      s.3,
    )
