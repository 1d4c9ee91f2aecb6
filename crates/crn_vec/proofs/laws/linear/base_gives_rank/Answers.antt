use Rattle.crn_vec.proofs.Ranks.{base_gives_rank}
use Rattle.crn_vec.proofs.laws.linear.base_gives_rank.Goals as goal

pub returns : goal.returns
returns c = base_gives_rank
