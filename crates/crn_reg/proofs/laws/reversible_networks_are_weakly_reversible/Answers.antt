use Rattle.crn_reg.proofs.Prelude.{reaches_step, weakly_reversible_by_reactions}
use Rattle.crn_reg.proofs.laws.reversible_networks_are_weakly_reversible.Goals as goal

pub returns : goal.returns
returns c reactions h = (weakly_reversible_by_reactions reactions).0 (λ y z i. (reaches_step reactions y z i, reaches_step reactions z y (h y z i)))
