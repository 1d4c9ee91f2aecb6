-- What other crates may cite of this crate's proofs.

-- Lists of equal lengths one after another, what holds of an answer that is there, and the rows of the systems of a network.
pub use Rattle.crn_vec.proofs.CallerLemmas.{length-rows_after, rows_after, within_append, if_ok}
pub use Rattle.crn_vec.proofs.CallerLemmas.{reaction_long, vectors_count, vector_at, vector_width, some_species}
pub use Rattle.crn_vec.proofs.CallerLemmas.{column_long, row_is, rows_count, column_is, combined_past}
-- A basis and an index that name a wide vector have the form that an open answer requires.
pub use Rattle.crn_cert.proofs.CallerLemmas.{wide_basis}
-- Small solutions are numbers of a certificate.
pub use Rattle.crn_conc.proofs.Ended.{solution_free}
-- Which kinds one choice more leaves as they are.
pub use Rattle.crn_conc.proofs.SettledLaws.{all_settle, coordinate_at, coordinates_long, rows_settle}
