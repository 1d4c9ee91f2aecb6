use Rattle.crn_document.proofs.Prelude.{length}
use Rattle.crn_document.proofs.parts.+push_classes.Given as goal

abbrev pub decreases-push_classes : goal.decreases-push_classes
decreases-push_classes l = length l.numbers.now
