use Rattle.crn_vec.proofs.Numbers.{deficiency_is_one}
use Rattle.crn_vec.proofs.laws.classes.deficiency_is_one_number.Goals as goal

pub returns : goal.returns
returns c = deficiency_is_one
