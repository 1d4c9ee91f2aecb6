use Rattle.crn_cert.proofs.BlocksMade.{blocks_are_of_answers}
use Rattle.crn_cert.proofs.laws.blocks_are_of_answers.Goals as goal

pub returns : goal.returns
returns c = blocks_are_of_answers
