use Rattle.crn_siphon_text.proofs.Prelude.{ℕ, ap, ◌∙◌, small, Free, words, no_forms, forms_named}
use Rattle.crn_siphon_text.proofs.LinesRead.{no_forms_are}
use Rattle.crn_siphon_text.proofs.lines.next_denial.Goals as goal

pub returns-clause-step : goal.returns-clause-step
returns-clause-step g c =
    let net = c.args.net.now in
    let cut = c.free_run.ensures.field ∙ ap (λ (n : ℕ). Free n) c.reactions.ensures.count in
    let marks = c.small_run.ensures.field ∙ ap (λ (n : ℕ). small n 0 1) c.species.ensures.count in
    forms_named words _ (no_forms net) c.next_of.result c.args.at.now c.next_of.new.at _ _ (no_forms_are net c.free_run.result c.small_run.result cut marks) c.next_of.ensures.step
