use Rattle.crn_document.proofs.Prelude.{◌-◌}
use Rattle.crn_document.proofs.questions.+next_blocks.Given as goal

abbrev pub decreases-next_blocks : goal.decreases-next_blocks
decreases-next_blocks g l = 16 - l.place
