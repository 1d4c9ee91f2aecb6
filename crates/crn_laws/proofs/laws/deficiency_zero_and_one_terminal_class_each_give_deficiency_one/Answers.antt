use Rattle.crn_laws.proofs.Deficiencies.{deficiency_zero_gives_deficiency_one}
use Rattle.crn_laws.proofs.laws.deficiency_zero_and_one_terminal_class_each_give_deficiency_one.Goals as goal

pub returns : goal.returns
returns c = deficiency_zero_gives_deficiency_one
