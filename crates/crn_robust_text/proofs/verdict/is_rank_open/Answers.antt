use Rattle.crn_robust_text.proofs.Prelude.{sym, ap, ◌∙◌, Verdict, is_open}
use Rattle.crn_robust_text.proofs.VerdictsRead.{is_shut}
use Rattle.crn_robust_text.proofs.verdict.is_rank_open.Goals as goal

pub returns-in-Unknown : goal.returns-in-Unknown
returns-in-Unknown c = sym (ap (λ (v : Verdict). is_open v) (sym c.verdict.ensures ∙ c.in-Unknown.is))

pub returns-in_default : goal.returns-in_default
returns-in_default c = sym (is_shut c.verdict.result.now c.in_default.not-Unknown) ∙ ap (λ (v : Verdict). is_open v) c.verdict.ensures
