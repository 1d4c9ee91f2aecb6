use Rattle.crn_robust_text.proofs.Prelude.{documents_are_judged, part, meant}
use Rattle.crn_robust_text.proofs.Settled.{course_settled}
use Rattle.crn_robust_text.proofs.Answered.{robust_is_answered}
use Rattle.crn_robust_text.proofs.laws.documents_on_robustness_are_judged.Goals as goal

pub returns : goal.returns
returns c = documents_are_judged part meant robust_is_answered course_settled
