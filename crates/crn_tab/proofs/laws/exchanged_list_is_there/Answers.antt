use Rattle.crn_tab.proofs.ExchangedLists.{exchanged_list}
use Rattle.crn_tab.proofs.laws.exchanged_list_is_there.Goals as goal

pub returns : goal.returns
returns c = exchanged_list
