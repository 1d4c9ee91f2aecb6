-- What other crates may cite of this crate's proofs.

-- Right labels of linkage classes and of strong classes are one list, and their number is one number.
pub use Rattle.crn_graph.proofs.LabelLaws.{one_labels, one_strong_labels, one_count}
-- Arcs of a list that grows at its end.
pub use Rattle.crn_graph.proofs.ArcLaws.{arc_same, arc_made, arc_only}
