use Rattle.crn_tab.proofs.OneVector.{one_vector}
use Rattle.crn_tab.proofs.laws.named_vector_is_one.Goals as goal

pub returns : goal.returns
returns c = one_vector
