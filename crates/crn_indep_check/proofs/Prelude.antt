-- What this crate's proofs use of other crates and of its specs.
pub use Rattle.crn_cert.proofs.CallerLemmas.{all_vectors, hold_parts, rank_is_formed, valid_answers_are_true}
pub use Rattle.crn_cert.specs.ClassTests.{AreNumbered, IsFirst, IsTree}
pub use Rattle.crn_cert.specs.Questions.{Q5}
pub use Rattle.crn_cert.specs.Ranges.{AreFree}
pub use Rattle.crn_cert.specs.RankTests.{IsComb, comb_tests, dual_tests, outside, rank_tests, vector_of, vectors_of}
pub use Rattle.crn_cert.specs.Says.{IsRankOf, from_zero}
pub use Rattle.crn_cert.specs.Tests.{AllHold, FailsFirst, Test}
pub use Rattle.crn_cert.specs.declared.answer.Answer.{Answer}
pub use Rattle.crn_cert.specs.declared.answer.Proof.TheVariants.{Rank as RankRows}
pub use Rattle.crn_cert.specs.declared.answer.RankProof.{RankProof}
pub use Rattle.crn_cert.specs.declared.answer.Verdict.TheVariants.{Rank}
pub use Rattle.crn_indep_check.specs.Finest.{IsIndependentDecomposition, all_reactions, label_of, part_reactions}
pub use Rattle.crn_indep_check.specs.Inner.Ties.{IsEvenAt, IsGreatest}
pub use Rattle.crn_indep_check.specs.Law.{ShownDecompositionsAreFinest, ValidAnswersAreTrue}
pub use Rattle.crn_indep_check.specs.Shown.{AreEvenLabels, AreLinked, AreTied, DrawsOn, FailsShown, HangsByTie, IsProofForm, IsShownForm, comb_for, combined, greatest, label_record, part_ranks}
pub use Rattle.crn_indep_check.specs.declared.parts.Parts.TheVariants.{Split, Wide}
pub use Rattle.crn_space.proofs.CallerLemmas.{IsPart, ascending_few, counted, counted_all, in_part, part_few, part_filter, part_filters, part_independent, part_later, part_map, placed, zero_more}
pub use Rattle.crn_vec.proofs.CallerLemmas.{above_in, any_false, any_is, any_true, ascending_at, ascending_tail, at_in, base_gives_rank, distrib, dot-plus, dot-scale, dot_none, entry-plus, entry-scale, eq_or, filter_few, filter_from, filter_has, filter_no, filter_yes, first_goes, first_stays, in_at, in_range, is_zero, left-comm, length-plus, length-scale, length-zeros, lt_or, no_zero, not_true, plus, range_ascending, range_bounds, range_more, rank_is_one_number, refused, zeros, zeros-dot}
pub use Rattle.crn_vec.specs.Deficiency.{vectors}
pub use Rattle.crn_vec.specs.Linkage.{IsLabelCount}
pub use Rattle.crn_vec.specs.Lists.{IsAscending, IsIn}
pub use Rattle.crn_vec.specs.Network.{IsNetwork, Net}
pub use Rattle.crn_vec.specs.Rank.{DependsOn, IsIndependent, IsRank, IsZero, chosen, combination_at}
pub use Rattle.crn_vec.specs.Vectors.{column, dot, entry, scale}
pub use Rattle.crn_vec.specs.declared.limits.TheConstants.{MAX_REACTIONS}
pub use Rattle.std.proofs.Common.{Bool, List, [], ap, arith, below_more, drop, false, get_or, inl, inr, length, map, ne_eqb, refl, subst, suc, sym, take, true, zero, ℕ, ◌++◌, ◌+◌, ◌-◌, ◌<◌, ◌==◌, ◌∙◌, ◌∷◌, ◌≡◌, ◌≢◌, ◌≤◌, ◌⊎◌}
pub use Rattle.std.proofs.lemmas.Bool.{cases_Bool, cases_eq, eq-eqb, eqb-true}
pub use Rattle.std.proofs.lemmas.Int.{ints}
pub use Rattle.std.proofs.lemmas.List.{get_or-map, length-append, length-drop, length-map, map-append}
pub use Rattle.std.proofs.lemmas.List.Elements.{filter-append}
pub use Rattle.std.proofs.lemmas.List.FromFn.{get_or-map-range_with_len, length-range_with_len}
pub use Rattle.std.proofs.lemmas.List.Sorted.{searched}
pub use Rattle.std.proofs.lemmas.List.Sums.{sum_by-cons}
pub use Rattle.std.specs.List.{AllByRecursion, list_any, range_with_len}
pub use Rattle.std.specs.List.Sorted.{IsBinarySearchResult}
pub use Rattle.std.specs.Ordering.{nat_cmp}
pub use Rattle.std.specs.Prelude.{Err, filter, not, pos, slice_index, sum, ℤ, ◌*ℤ◌, ◌+ℤ◌}
