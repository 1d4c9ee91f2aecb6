use Rattle.crn_robust_text.proofs.Prelude.{ℕ, ap, ◌∙◌, small, words, case_forms, forms_named}
use Rattle.crn_robust_text.proofs.LinesRead.{case_forms_are}
use Rattle.crn_robust_text.proofs.lines.next_case.Goals as goal

pub returns-clause-step : goal.returns-clause-step
returns-clause-step g c =
    let net = c.args.net.now in
    let species = c.small_run.ensures.field ∙ ap (λ (n : ℕ). small 1 1 n) c.species.ensures.count in
    let pair = c.small_run-2.ensures.field ∙ ap (λ (n : ℕ). small 2 1 n) c.complexes-complexes.ensures.count in
    let number = c.small_run-3.ensures.field ∙ ap (λ (n : ℕ). small 1 0 n) c.complexes-complexes.ensures.count in
    forms_named words _ (case_forms net) c.next_of.result c.args.at.now c.next_of.new.at _ _ (case_forms_are net c.small_run.result c.small_run-2.result c.small_run-3.result species pair number) c.next_of.ensures.step
