use Rattle.crn_siphon_text.proofs.Prelude.{ℕ, ap, ◌∙◌, Free, words, law_forms, forms_named}
use Rattle.crn_siphon_text.proofs.LinesRead.{law_forms_are}
use Rattle.crn_siphon_text.proofs.lines.next_law.Goals as goal

pub returns-clause-step : goal.returns-clause-step
returns-clause-step g c =
    let net = c.args.net.now in
    forms_named words _ (law_forms net) c.next_of.result c.args.at.now c.next_of.new.at _ _
    (law_forms_are net c.free_run.result (c.free_run.ensures.field ∙ ap (λ (n : ℕ). Free n) c.species.ensures.count)) c.next_of.ensures.step
