use Rattle.crn_endo_text.proofs.Prelude.{documents_are_judged, part, meant}
use Rattle.crn_endo_text.proofs.Settled.{course_settled}
use Rattle.crn_endo_text.proofs.Answered.{endo_is_answered}
use Rattle.crn_endo_text.proofs.laws.documents_on_endotactic_networks_are_judged.Goals as goal

pub returns : goal.returns
returns c = documents_are_judged part meant endo_is_answered course_settled
