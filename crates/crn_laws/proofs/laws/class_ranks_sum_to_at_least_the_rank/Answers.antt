use Rattle.crn_laws.proofs.Deficiencies.{class_ranks_sum_to_at_least}
use Rattle.crn_laws.proofs.laws.class_ranks_sum_to_at_least_the_rank.Goals as goal

pub returns : goal.returns
returns c = class_ranks_sum_to_at_least
