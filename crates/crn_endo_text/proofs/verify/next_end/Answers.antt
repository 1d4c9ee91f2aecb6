use Rattle.crn_endo_text.proofs.Prelude.{◌∷◌, [], err_from_is_err_and, end_form, asks_part, stop_first, end_exits, step_then_ends, read_to_the_end, words}
use Rattle.crn_reading.specs.Ending.{ends_with}
use Rattle.crn_endo_text.proofs.verify.next_end.Goals as goal

pub returns-in_err-next_last : goal.returns-in_err-next_last
returns-in_err-next_last g c = λ read.
    end_exits _ read c.from_residual.result _ _ _ _ (err_from_is_err_and c.from_residual.result c.from_residual.ensures.1)
    (stop_first (asks_part words c.args.at.now.line (end_form ∷ [])) (λ last. ends_with read) _ _ _ _ c.in_err-next_last.ensures.step)

pub returns : goal.returns
returns g c = λ read.
    let s = c.in_ok-next_last.ensures.step in
    step_then_ends (asks_part words c.args.at.now.line (end_form ∷ [])) (λ last. ends_with read) s.0 read c.no_more.result c.args.at.now c.next_last.new.at _ _ _ s.2 s.3 (read_to_the_end read c.no_more.result c.next_last.new.at _ _ c.no_more.ensures)
