-- What other crates may cite of this crate's proofs.
-- Facts on the built questions before one hold what its checks look at, and no verdict on a later one.
pub use Rattle.crn_check.proofs.Asked.{built_at, needs_held, none_from, asked_number, by_question}
-- Formed answers whose verdict is not the one that trees show hold no tree.
pub use Rattle.crn_check.proofs.NoTrees.{answer_treeless}
-- Tests in two parts, and the verdict that facts hold on a question.
pub use Rattle.crn_check.proofs.Judging.{judges_stop, judges_go}
pub use Rattle.crn_check.proofs.Forms.{formed_on, strong_labelled, shown_formed, shown_tight}
-- The verdict that facts hold on a question is true or open, and on the first two questions and the fourth it is true.
pub use Rattle.crn_check.proofs.Truths.{sound_on, linkage_true, strong_true, weak_true}
-- The sides of a valid yes to question 11.
pub use Rattle.crn_check.proofs.SidesAccepted.{sides_accepted, sides_of_answer}
-- What the facts hold on the strong classes.
pub use Rattle.crn_check.proofs.VectorKnown.{classes_known}
-- No more strong classes are terminal than there are complexes.
pub use Rattle.crn_check.proofs.Forms.{terminal_few}
