use Rattle.crn_vec.proofs.WalkLaws.{weakly_reversible_by_reactions}
use Rattle.crn_vec.proofs.laws.classes.weak_reversibility_is_by_reactions.Goals as goal

pub returns : goal.returns
returns c = weakly_reversible_by_reactions
