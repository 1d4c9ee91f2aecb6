use Rattle.crn_indep_text.proofs.Prelude.{ap, map, ◌∙◌, sym, subst, nat_abs, err_from_is_err_and, asks_part, step_exits, memory_stops, words, AreSmall, run_forms}
use Rattle.crn_reading.specs.declared.fault.CheckStop.TheVariants as stop
use Rattle.crn_indep_text.proofs.lines.next_nums.Goals as goal

pub nums_of-requires : goal.nums_of-requires
nums_of-requires g c =
    let s = c.in_ok-next_row.ensures.step in
    let said = s.1 in
    subst AreSmall (sym (c.as_slice.ensures ∙ said.numbers)) (let small = c.requires.small in small s.0 said.form)

pub returns-in_err-next_row-clause-step : goal.returns-in_err-next_row-clause-step
returns-in_err-next_row-clause-step g c =
    step_exits _ _ c.from_residual.result _ _ _ _ _ (err_from_is_err_and c.from_residual.result c.from_residual.ensures.1) c.in_err-next_row.ensures.step

pub returns-in_err-made-clause-step : goal.returns-in_err-made-clause-step
returns-in_err-made-clause-step g c =
    let s = c.in_ok-next_row.ensures.step in
    step_exits _ _ _ stop.NoMemory c.args.at.now _ _ _ (err_from_is_err_and _ c.from_residual-in_err-made.ensures.1)
    (memory_stops (asks_part words c.args.at.now.line (run_forms c.args.word c.args.run)) s.0 c.args.at.now c.next_row.new.at _ _ s.2 s.3 c.in_ok-next_row.ensures.goes.reads)

pub returns-clause-step : goal.returns-clause-step
returns-clause-step g c =
    let s = c.in_ok-next_row.ensures.step in
    let said = s.1 in
    (s.0, record { form = said.form; list = c.in_ok-made.ensures.list ∙ ap (map nat_abs) (c.as_slice.ensures ∙ said.numbers); spare = c.in_ok-made.ensures.spare }, s.2, s.3)
