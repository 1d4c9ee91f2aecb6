-- What other crates may cite of this crate's proofs.

-- Parts of a list: filters, images and members of a part; independent vectors that are a part are at most the rank.
pub use Rattle.crn_space.proofs.Parts.{IsPart, part_later, part_filter, part_filters, part_map, part_places, in_part, part_then, Placed, placed}
pub use Rattle.crn_space.proofs.Parts.{zero_more, part_independent, part_few}
-- Members of a list by their labels.
pub use Rattle.crn_space.proofs.Counts.{counted, counted_all}
-- Ranges have no member twice; chosen reactions and their vectors.
pub use Rattle.crn_space.proofs.Chosen.{taken, range_distinct, taken_vectors, taken_in}
-- Ascending numbers below a bound are few; independent vectors are no more than their entries, and one that is not 0 is independent.
pub use Rattle.crn_space.proofs.Few.{ascending_few, few_independent, zero_entry, one_independent}
-- The rank of reactions is from 1 to the lesser of the numbers of species and of these reactions; lists whose differences are zero are equal.
pub use Rattle.crn_space.proofs.RankBounds.{rank_from, same_if_none}
-- Independent reactions within a list of complexes, and complexes of it whose labels differ, are together no more than the list.
pub use Rattle.crn_space.proofs.Weights.{few_together}
-- The labels of the two complexes of a reaction; one complex of each linkage class, how many classes there are, and what the rank leaves.
pub use Rattle.crn_space.proofs.Roots.{one_label, Roots, roots, number_of_classes, labels_few, rank_leaves}
-- The deficiencies of the linkage classes sum to at most that of the network.
pub use Rattle.crn_space.proofs.ClassSums.{class_deficiencies_sum_to_at_most}
-- Vectors of one length are independent or related, and the first of related vectors whose rest is independent counts.
pub use Rattle.crn_space.proofs.Kernels.{free_or, head_counts}
-- Independent vectors of the confluence space: no more than the deficiency says, and as many.
pub use Rattle.crn_space.proofs.SpaceFew.{space_few}
pub use Rattle.crn_space.proofs.SpaceSome.{SpaceBase, space_some}
-- The confluence space has as many dimensions as the deficiency says, so it holds only zero at 0 and is a line at 1.
pub use Rattle.crn_space.proofs.Dimension.{space_dimension, zero_leaves_only_zero, zero_leaves_no_vector, one_leaves_line}
