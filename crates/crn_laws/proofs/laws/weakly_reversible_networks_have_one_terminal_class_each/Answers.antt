use Rattle.crn_laws.proofs.Hypotheses.{weakly_reversible_have_one_terminal_each}
use Rattle.crn_laws.proofs.laws.weakly_reversible_networks_have_one_terminal_class_each.Goals as goal

pub returns : goal.returns
returns c = weakly_reversible_have_one_terminal_each
