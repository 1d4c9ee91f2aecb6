use Rattle.crn_siphon_text.proofs.Prelude.{ℕ, ap, ◌∙◌, Free, words, cover_forms, forms_named}
use Rattle.crn_siphon_text.proofs.LinesRead.{cover_forms_are}
use Rattle.crn_siphon_text.proofs.lines.next_multipliers.Goals as goal

pub returns-clause-step : goal.returns-clause-step
returns-clause-step g c =
    let net = c.args.net.now in
    forms_named words _ (cover_forms net) c.next_of.result c.args.at.now c.next_of.new.at _ _
    (cover_forms_are net c.free_run.result (c.free_run.ensures.field ∙ ap (λ (n : ℕ). Free n) c.reactions.ensures.count)) c.next_of.ensures.step
