use Rattle.crn_siphon_text.proofs.Prelude.{◌+◌, ℕ, ap, ◌∙◌, arith, Rising, words, verdict_forms, forms_named}
use Rattle.crn_siphon_text.proofs.LinesRead.{verdict_forms_are}
use Rattle.crn_siphon_text.proofs.lines.next_verdict.Goals as goal

pub returns-clause-step : goal.returns-clause-step
returns-clause-step g c =
    let net = c.args.net.now in
    let all = c.species-species.result + c.reactions-reactions.result in
    let basis = c.rising_run.ensures.field ∙ ap (λ (n : ℕ). Rising n all) c.species-species.ensures.count in
    let members = c.rising_run-2.ensures.field ∙ ap (λ (n : ℕ). Rising n all) c.reactions-reactions.ensures.count in
    forms_named words _ (verdict_forms net) c.next_of.result c.args.at.now c.next_of.new.at _ _
    (verdict_forms_are net all c.small_run.result c.small_run-2.result c.rising_run.result c.small_run-3.result c.small_run-4.result c.rising_run-2.result c.small_run-5.result
    (omega (arith, c.species-species.ensures.count, c.reactions-reactions.ensures.count)) (omega (arith, c.species-species.ensures.count, c.reactions-reactions.ensures.count))
    c.small_run.ensures.field c.small_run-2.ensures.field basis c.small_run-3.ensures.field c.small_run-4.ensures.field members c.small_run-5.ensures.field) c.next_of.ensures.step
