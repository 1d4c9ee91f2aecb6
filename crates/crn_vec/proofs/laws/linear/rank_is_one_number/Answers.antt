use Rattle.crn_vec.proofs.Ranks.{rank_is_one_number}
use Rattle.crn_vec.proofs.laws.linear.rank_is_one_number.Goals as goal

pub returns : goal.returns
returns c = rank_is_one_number
