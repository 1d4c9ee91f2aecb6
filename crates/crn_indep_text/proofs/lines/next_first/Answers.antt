use Rattle.crn_indep_text.proofs.Prelude.{◌+◌, ℕ, ap, ◌∙◌, arith, Rising, forms_named, words, first_forms}
use Rattle.crn_indep_text.proofs.LinesRead.{first_forms_are}
use Rattle.crn_indep_text.proofs.lines.next_first.Goals as goal

pub returns-clause-step : goal.returns-clause-step
returns-clause-step g c =
    let net = c.args.net.now in
    let all = c.species-species.result + c.reactions-reactions.result in
    let basis = c.rising_run.ensures.field ∙ ap (λ (n : ℕ). Rising n all) c.species-species.ensures.count in
    forms_named words _ (first_forms net) c.next_of.result c.args.at.now c.next_of.new.at _ _
    (first_forms_are net _ all c.small_run.result c.small_run-2.result c.rising_run.result (omega (arith, c.species-species.ensures.count, c.reactions-reactions.ensures.count)) (omega (arith, c.species-species.ensures.count, c.reactions-reactions.ensures.count))
    c.small_run.ensures.field c.small_run-2.ensures.field basis) c.next_of.ensures.step
