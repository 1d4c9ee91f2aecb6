-- What other crates may cite of this crate's proofs.
-- The law of each question, and of all answers to questions that are built one after another.
pub use Rattle.crn_cert.proofs.AllLaws.{valid_answers_are_true, valid_documents_are_true}
-- Formed and valid strong classes are true, whatever the reactions join.
pub use Rattle.crn_cert.proofs.ValidLaws.{strong_law}
-- A tree that is valid at the empty prefix leaves no full feasible prefix.
pub use Rattle.crn_cert.proofs.TreeLaws.{leaves_nothing}
-- Marks that pass the test of a side, and the linked pairs within terminal classes.
pub use Rattle.crn_cert.proofs.Cycles.{tested_marks_are_sides}
pub use Rattle.crn_cert.proofs.PairPlaces.{pair_places_are_pairs}
-- A shape of the network for each vector over its complexes, and for each list with given terminal classes and pairs.
pub use Rattle.crn_cert.proofs.ShapesExist.{shapes_exist, side_marks, side_inside, side_sum, shape_with, shape_count}
-- Heads of verdicts do not depend on the lists of later records.
pub use Rattle.crn_cert.proofs.Heads.{tests_by_heads, forms_by_heads, heads_depend_on_no_lists}
-- The verdict of a formed answer is formed; tests of trees; the share of cuts fits them.
pub use Rattle.crn_cert.proofs.VerdictsFormed.{formed_answers_have_formed_verdicts}
pub use Rattle.crn_cert.proofs.TreesDecided.{tests_decide_valid_trees}
pub use Rattle.crn_cert.proofs.CutShares.{shares_fit}
-- The terminal classes of a linkage class, one strong class after another.
pub use Rattle.crn_cert.proofs.TerminalCounts.{passes_at, fails_by_exit, fails_by_complexes, terminals_yes, terminals_no, terminals_few}
-- The terminal classes are numbered by labels and exits.
unfoldable pub use Rattle.crn_cert.proofs.TopsNumbered.{zeros_below, top_for}
pub use Rattle.crn_cert.proofs.TopsNumbered.{tops_of, tops_are}
-- The count of the terminal classes of a shape is their number.
pub use Rattle.crn_cert.proofs.TopsCounted.{tops_are_counted}
-- The vectors of all reactions and of a linkage class by their numbers.
pub use Rattle.crn_cert.proofs.RankLaws.{all_vectors, class_vectors_are}
-- Ranges of numbers.
pub use Rattle.crn_vec.proofs.CallerLemmas.{range_ascending, range_bounds}
-- The number of each question, and the question of a number.
pub use Rattle.crn_cert.proofs.Places.{numbered, some_number, few_numbers}
-- Formed answers to questions 1 to 12 have no trees, and so each of their trees has few nodes, as it has for a greater bound.
pub use Rattle.crn_cert.proofs.Treeless.{IsTreeless, treeless, treeless_few, have_more}
-- Tests that hold, one list after another.
pub use Rattle.crn_cert.proofs.TestLists.{hold_append, hold_parts}
-- A basis and an index that name a wide vector have the form that an open answer requires.
pub use Rattle.crn_cert.proofs.WideGaps.{wide_basis}
-- Lists of small numbers are lists of numbers of a certificate.
pub use Rattle.crn_cert.proofs.Narrow.{narrow_all}
-- Trees by their prefixes.
pub use Rattle.crn_cert.proofs.TreeSizes.{count_places, formed_tree}
-- The verdict on weak reversibility.
pub use Rattle.crn_cert.proofs.Known.{weak_yes, weak_no}
-- Reactions and complexes by their numbers.
pub use Rattle.crn_cert.proofs.ClassesRight.{named_in, label_inside, goes_at, least_one}
pub use Rattle.crn_cert.proofs.ShapesExist.{between_back, some_top, widths, tops_below}
pub use Rattle.crn_cert.proofs.RankLaws.{class_ascending, vector_entry}
pub use Rattle.crn_cert.proofs.AllLaws.{same_question}
-- No signal of one confluence vector, and none of its negative, is no signal at all.
pub use Rattle.crn_cert.proofs.NoSignals.{none_at_all}
-- Nodes in preorder are those of one tree.
pub use Rattle.crn_cert.proofs.Preorders.{same_tree}
-- A verdict says the same without the spares of its lists.
pub use Rattle.crn_cert.proofs.Tight.{labels_tight, count_tight, exits_tight, rank_tight, vector_tight, open_tight, yes_tight, no_tight, tight_twice, all_tight_then, is_true_tight, true_tight}
-- What the block of a formed answer tells of its proof, and what makes an answer formed.
pub use Rattle.crn_cert.proofs.FormedFacts.{bare_formed, same_base, rank_formed, rank_is_formed, classes_formed, classes_are_formed, sides_formed, sides_are_formed, vector_is_formed, zero_is_formed, vector_is_given, signal_trees_formed, signal_trees_fit}
-- The records below a head, by what they prove.
pub use Rattle.crn_cert.proofs.BlockRows.{free_there, free_back, list_back, ranks_there, ranks_back, rank_again, duals_counted, classes_there, classes_back, classes_again, sides_there, sides_back, sides_again, free_lists, rank_long, below_long, duals_long}
-- The data of a head and of the records below it, and the block of the answer of a block.
pub use Rattle.crn_cert.proofs.DatumShapes.{AllOf, given, fields_in, fields_of, head_back, rows_back}
pub use Rattle.crn_cert.proofs.BlocksMade.{blocks_are_of_answers}
