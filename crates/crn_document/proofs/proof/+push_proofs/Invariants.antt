use Rattle.crn_document.proofs.Prelude.{length}
use Rattle.crn_document.proofs.proof.+push_proofs.Given as goal

abbrev pub decreases-push_proofs : goal.decreases-push_proofs
decreases-push_proofs l = length l.parts.now
