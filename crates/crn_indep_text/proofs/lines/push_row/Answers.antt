use Rattle.crn_indep_text.proofs.Prelude.{◌++◌, List, [], ◌∷◌, ap, arith, ◌∙◌, Ok, Err, ℤ, slice_index_or, err_from_is_err_and, Free, free_form, asks_part, step_exits, memory_stops, words}
use Rattle.crn_reading.specs.declared.fault.CheckStop.TheVariants as stop
use Rattle.crn_indep_text.proofs.LinesRead.{run_few, row_as, free_said}
use Rattle.crn_indep_text.proofs.lines.push_row.Goals as goal

pub next_row-requires-clause-few : goal.next_row-requires-clause-few
next_row-requires-clause-few g c = run_few c.free_run.result (Free c.args.width) c.free_run.ensures.field (omega (arith, c.requires.few))

pub returns-in_err-next_row-clause-step : goal.returns-in_err-next_row-clause-step
returns-in_err-next_row-clause-step g c =
    let e = c.in_err-next_row.field-0.0 in
    step_exits _ _ c.from_residual.result e _ _ _ _ (err_from_is_err_and c.from_residual.result c.from_residual.ensures.1)
    (row_as c.args.word c.args.width c.free_run.result (Err e) c.args.at.now c.next_row.new.at (g.S.Source.seen c.args.source.now) (g.S.Source.seen c.next_row.new.source) c.free_run.ensures.field c.in_err-next_row.ensures.step)

pub returns-in_err-row-clause-step : goal.returns-in_err-row-clause-step
returns-in_err-row-clause-step g c =
    let s = row_as c.args.word c.args.width c.free_run.result (Ok tt) c.args.at.now c.next_row.new.at (g.S.Source.seen c.args.source.now) (g.S.Source.seen c.next_row.new.source) c.free_run.ensures.field c.in_ok-next_row.ensures.step in
    step_exits _ _ _ stop.NoMemory c.args.at.now _ _ _ (err_from_is_err_and _ c.from_residual-in_err-row.ensures.1)
    (memory_stops (asks_part words c.args.at.now.line (free_form (slice_index_or words c.args.word []) c.args.width ∷ [])) s.0 c.args.at.now c.next_row.new.at _ _ s.2 s.3 c.in_ok-next_row.ensures.goes.reads)

pub returns-in_err-push-clause-step : goal.returns-in_err-push-clause-step
returns-in_err-push-clause-step g c =
    let s = row_as c.args.word c.args.width c.free_run.result (Ok tt) c.args.at.now c.next_row.new.at (g.S.Source.seen c.args.source.now) (g.S.Source.seen c.next_row.new.source) c.free_run.ensures.field c.in_ok-next_row.ensures.step in
    step_exits _ _ _ stop.NoMemory c.args.at.now _ _ _ (err_from_is_err_and _ c.from_residual-in_err-push.ensures.1)
    (memory_stops (asks_part words c.args.at.now.line (free_form (slice_index_or words c.args.word []) c.args.width ∷ [])) s.0 c.args.at.now c.next_row.new.at _ _ s.2 s.3 c.in_ok-next_row.ensures.goes.reads)

pub returns-clause-step : goal.returns-clause-step
returns-clause-step g c =
    let s = row_as c.args.word c.args.width c.free_run.result (Ok tt) c.args.at.now c.next_row.new.at (g.S.Source.seen c.args.source.now) (g.S.Source.seen c.next_row.new.source) c.free_run.ensures.field c.in_ok-next_row.ensures.step in
    let said = s.1 in
    let numbers = c.in_ok-row.ensures.list ∙ c.as_slice.ensures ∙ said.numbers in
    (s.0, (c.in_ok-push.ensures.ok ∙ ap (λ (xs : List ℤ). c.args.into.now ++ xs ∷ []) numbers, free_said c.args.word c.args.width c.next_row.new.at.numbers.list s.0 said), s.2, s.3)
