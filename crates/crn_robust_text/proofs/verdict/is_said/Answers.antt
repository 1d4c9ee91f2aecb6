use Rattle.crn_robust_text.proofs.Prelude.{◌∙◌, sym}
use Rattle.crn_robust_text.proofs.verdict.is_said.Goals as goal

pub returns-in-Yes : goal.returns-in-Yes
returns-in-Yes c = λ said h.
    let pair = (let law = c.is_pair.ensures in law said h) in
    (λ yes. pair.0 yes ∙ sym c.in-Yes.is, λ e. pair.1 (e ∙ c.in-Yes.is))
