use Rattle.crn_space.proofs.ClassSums.{class_deficiencies_sum_to_at_most}
use Rattle.crn_space.proofs.laws.class_deficiencies_sum_to_at_most_the_deficiency.Goals as goal

pub returns : goal.returns
returns c = class_deficiencies_sum_to_at_most
