use Rattle.crn_graph.proofs.LabelLaws.{one_labels, one_strong_labels, one_count}
use Rattle.crn_graph.proofs.laws.right_labels_are_one.Goals as goal

pub returns-clause-linkage : goal.returns-clause-linkage
returns-clause-linkage c = one_labels

pub returns-clause-strong : goal.returns-clause-strong
returns-clause-strong c = one_strong_labels

pub returns-clause-count : goal.returns-clause-count
returns-clause-count c = one_count
