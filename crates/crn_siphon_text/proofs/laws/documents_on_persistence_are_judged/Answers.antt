use Rattle.crn_siphon_text.proofs.Prelude.{documents_are_judged, part, meant}
use Rattle.crn_siphon_text.proofs.Settled.{course_settled}
use Rattle.crn_siphon_text.proofs.Answered.{persist_is_answered}
use Rattle.crn_siphon_text.proofs.laws.documents_on_persistence_are_judged.Goals as goal

pub returns : goal.returns
returns c = documents_are_judged part meant persist_is_answered course_settled
