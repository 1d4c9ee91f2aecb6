use Rattle.crn_laws.proofs.Hypotheses.{weakly_reversible_are_regular_by_cut_pairs, weakly_reversible_are_regular_or_fail}
use Rattle.crn_laws.proofs.laws.weakly_reversible_networks_are_regular_by_cut_pairs.Goals as goal

pub returns : goal.returns
returns c = record { pairs = weakly_reversible_are_regular_by_cut_pairs; fails = weakly_reversible_are_regular_or_fail }
