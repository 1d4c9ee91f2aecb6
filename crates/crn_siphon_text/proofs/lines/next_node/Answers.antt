use Rattle.crn_siphon_text.proofs.Prelude.{ℕ, ap, ◌∙◌, small, Free, words, node_forms, forms_named}
use Rattle.crn_siphon_text.proofs.LinesRead.{node_forms_are}
use Rattle.crn_siphon_text.proofs.lines.next_node.Goals as goal

pub returns-clause-step : goal.returns-clause-step
returns-clause-step g c =
    let net = c.args.net.now in
    let bad = c.small_run.ensures.field ∙ ap (λ (n : ℕ). small 1 1 n) c.reactions.ensures.count in
    let law = c.free_run.ensures.field ∙ ap (λ (n : ℕ). Free n) c.species.ensures.count in
    forms_named words _ (node_forms net) c.next_of.result c.args.at.now c.next_of.new.at _ _ (node_forms_are net c.small_run.result c.free_run.result bad law) c.next_of.ensures.step
