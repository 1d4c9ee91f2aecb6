use Rattle.crn_document.proofs.Prelude.{◌∷◌, [], err_from_is_err_and, end_form, asks, ends_with, stop_first, end_exits, step_then_ends, read_to_the_end}
use Rattle.crn_document.proofs.ending.next_end.Goals as goal

pub returns-in_err-next_plain : goal.returns-in_err-next_plain
returns-in_err-next_plain g c = record {
  step = λ read.
      end_exits _ read c.from_residual.result _ _ _ _ (err_from_is_err_and c.from_residual.result c.from_residual.ensures.1)
      (stop_first (asks c.args.at.now.version c.args.at.now.line c.args.after_tree (end_form ∷ [])) (λ last. ends_with read) c.in_err-next_plain.field-0.0 _ _ _ c.in_err-next_plain.ensures.step);
}

pub returns : goal.returns
returns g c = record {
  step = λ read.
      let s = c.in_ok-next_plain.ensures.step in
      step_then_ends (asks c.args.at.now.version c.args.at.now.line c.args.after_tree (end_form ∷ [])) (λ last. ends_with read) s.0 read c.no_more.result c.args.at.now c.next_plain.new.at _ _ _ s.2 s.3 (read_to_the_end read c.no_more.result c.next_plain.new.at _ _ c.no_more.ensures);
}
