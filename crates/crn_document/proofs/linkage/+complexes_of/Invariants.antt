use Rattle.crn_document.proofs.Prelude.{length}
use Rattle.crn_document.proofs.linkage.+complexes_of.Given as goal

abbrev pub decreases-complexes_of : goal.decreases-complexes_of
decreases-complexes_of l = length l.labels.now
