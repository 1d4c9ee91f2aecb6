-- What other crates may cite of this crate's proofs.

-- A true or licensed verdict is true or open; a question that rests on the rank is open if the rank is.
pub use Rattle.crn_defi.proofs.Callers.{true_or_open, deficiencies_rest, zero_rests}
-- All reactions are members, and the rank of their vectors is that of the network.
pub use Rattle.crn_defi.proofs.TestFacts.{all_places, are_members, rank_is}
-- The data of strong classes that pass their tests are right.
pub use Rattle.crn_defi.proofs.Callers.{linkage_right, strong_right}
-- Ranges and filters with one more member at the end, and tests that find a member, or none.
pub use Rattle.crn_vec.proofs.CallerLemmas.{in_range, filter_from as filter_of, range_more, filter_yes, filter_no, and_true}
-- Ascending numbers below a bound are few; independent vectors are no more than their entries, and one that is not 0 is independent.
pub use Rattle.crn_space.proofs.CallerLemmas.{ascending_few, few_independent, one_independent, same_if_none}
