-- What other crates may cite of this crate's proofs.

-- Multipliers that are as many numbers of a certificate as a part has rows are the numbers of a cut.
pub use Rattle.crn_ctree.proofs.NodeTests.{free_a, free_b, free_shape}
-- Nodes that fit one after another, and one more that is taken, fit one after another.
pub use Rattle.crn_ctree.proofs.TreeEnds.{passing_none, passing_taken}
-- When nothing is due after them, and what they show then.
pub use Rattle.crn_ctree.proofs.TreeEnds.{complete_if_and_only_if_valid, complete_trees_show}
-- The tests of the trees of question 13 by the shape of the network and of the vector of question 12.
pub use Rattle.crn_ctree.proofs.SignalTrees.{signal_nodes, first_signal_faults}
-- A kind and a number that equal those of a row.
pub use Rattle.crn_ctree.proofs.SignalLaws.{has_both}
