use Rattle.crn_tab.proofs.Finish.{exchanged_one}
use Rattle.crn_tab.proofs.laws.exchanged_list_is_one.Goals as goal

pub returns : goal.returns
returns c = exchanged_one
