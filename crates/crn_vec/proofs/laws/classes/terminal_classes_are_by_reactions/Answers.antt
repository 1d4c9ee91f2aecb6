use Rattle.crn_vec.proofs.Reached.{terminal_by_reactions}
use Rattle.crn_vec.proofs.laws.classes.terminal_classes_are_by_reactions.Goals as goal

pub returns : goal.returns
returns c = terminal_by_reactions
