use Rattle.crn_document.proofs.Prelude.{length}
use Rattle.crn_document.proofs.quick.+spells.Given as goal

abbrev pub decreases-spells : goal.decreases-spells
decreases-spells l = length l.digits.now
