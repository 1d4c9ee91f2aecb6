use Rattle.crn_endo_text.proofs.Prelude.{ℕ, ap, ◌∙◌, Free, words, slope_forms, forms_named}
use Rattle.crn_endo_text.proofs.LinesRead.{slope_forms_are}
use Rattle.crn_endo_text.proofs.lines.next_slope.Goals as goal

pub returns-clause-step : goal.returns-clause-step
returns-clause-step g c =
    let net = c.args.net.now in
    forms_named words _ (slope_forms net) c.next_of.result c.args.at.now c.next_of.new.at _ _
    (slope_forms_are net c.free_run.result (c.free_run.ensures.field ∙ ap (λ (n : ℕ). Free n) c.species.ensures.count)) c.next_of.ensures.step
