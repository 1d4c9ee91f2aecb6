use Rattle.crn_run.proofs.WordsSaid.{one_command}
use Rattle.crn_run.proofs.laws.words_say_one_command.Goals as goal

pub returns : goal.returns
returns c = one_command
