-- What this crate's proofs use of other crates and of its specs.
pub use Rattle.crn_cert.proofs.CallerLemmas.{hold_append, narrow_all}
pub use Rattle.crn_cert.specs.Ranges.{AreFree, IsNarrow}
pub use Rattle.crn_cert.specs.RankTests.{IsComb, IsDual, comb_tests, dual_tests, outside, vector_of, vectors_of}
pub use Rattle.crn_cert.specs.Tests.{AllHold}
pub use Rattle.crn_cert.specs.declared.answer.RankProof.{RankProof}
pub use Rattle.crn_farkas.proofs.CallerLemmas.{as_column, column_some}
pub use Rattle.crn_rank.specs.Inner.Rows.{IsCombOf, IsDualOf, comb_numbers, is_inside, is_outside, picked, rows_inside, rows_outside}
pub use Rattle.crn_rank.specs.Rank.{AreMembers, ProvesRank, member_matrix}
pub use Rattle.crn_tab.proofs.CallerLemmas.{as_row}
pub use Rattle.crn_tab.specs.Tableau.{AreEntered, ArePlacesOfRows, EnteredRowsGiveTheRank, IsNumbered, IsRefused, NamesRows}
pub use Rattle.crn_vec.proofs.CallerLemmas.{above_ascending, above_few, above_in, all_at, all_map, any_false, any_is, any_true, ascending_push, at_in, chosen_at, column-chosen, column_past, dot-comm, dot-last, dot_step, dot_zero, entry-column, eq_or, flat_map_push, if_ok, in_left, in_map, in_push, in_right, length-column, length-minus, length-rows_after, lt_or, map_in, map_more, mul-neg, row_count, rows_after, same_members, same_place, some_species, vector_long, within_append, zip_at, zip_long, zip_push}
pub use Rattle.crn_vec.specs.Elementary.{IsNamed, NamesWide, WideAt, width}
pub use Rattle.crn_vec.specs.Kept.{KeptInts, KeptNums}
pub use Rattle.crn_vec.specs.Lists.{AreDistinct, IsAscending, IsIn}
pub use Rattle.crn_vec.specs.Matrices.{mat_of}
pub use Rattle.crn_vec.specs.Network.{IsNetwork, JoinsTwo, Net}
pub use Rattle.crn_vec.specs.Rank.{IsRank, chosen}
pub use Rattle.crn_vec.specs.Vectors.{AreWithin, Mat, column, dot, entry}
pub use Rattle.crn_vec.specs.declared.limits.TheConstants.{MAX_AMOUNT, MAX_REACTIONS, WIDE_ENTRY}
pub use Rattle.std.proofs.Common.{Bool, Err, List, Ok, OnOk, Result, [], add-one, ap, ap₂, arith, cond, drop, false, get_or, inl, inr, length, map, not, of_z, refl, slice_index, subst, suc, sym, take, to_z, true, zero, ℕ, ◌*◌, ◌++◌, ◌+◌, ◌-◌, ◌<◌, ◌==◌, ◌∙◌, ◌∷◌, ◌≡◌, ◌≢◌, ◌≤◌, ◌⊎◌}
pub use Rattle.std.proofs.Math.Nat.{mul-le-mul_right}
pub use Rattle.std.proofs.lemmas.Bool.{cases_Bool, false≢true}
pub use Rattle.std.proofs.lemmas.Bool.Decides.{Decides-eqb, nat_tests}
pub use Rattle.std.proofs.lemmas.Int.{ints, to_z-of_z}
pub use Rattle.std.proofs.lemmas.List.{get_or-drop, get_or-map, get_or-take, length-append, length-drop, length-map, length-take-le, map-append, take_all, take_more}
pub use Rattle.std.proofs.lemmas.List.Elements.{filter_more}
pub use Rattle.std.specs.Int.{w128}
pub use Rattle.std.specs.List.{AllByRecursion, AllZip, filter, flat_map, list_any}
pub use Rattle.std.specs.Prelude.{nat_lt, neg_ℤ, pos, slice_index_or, unsigned_abs, ℤ, ◌*ℤ◌, ◌+ℤ◌, ◌≤ℤ◌}
