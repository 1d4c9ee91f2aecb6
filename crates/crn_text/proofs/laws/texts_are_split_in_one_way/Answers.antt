use Rattle.crn_text.proofs.OneSplit.{split_one}
use Rattle.crn_text.proofs.laws.texts_are_split_in_one_way.Goals as goal

pub returns : goal.returns
returns c = split_one
