use Rattle.crn_indep_text.proofs.Prelude.{documents_are_judged, part, meant}
use Rattle.crn_indep_text.proofs.Settled.{course_settled}
use Rattle.crn_indep_text.proofs.Answered.{parts_is_answered}
use Rattle.crn_indep_text.proofs.laws.documents_on_decompositions_are_judged.Goals as goal

pub returns : goal.returns
returns c = documents_are_judged part meant parts_is_answered course_settled
