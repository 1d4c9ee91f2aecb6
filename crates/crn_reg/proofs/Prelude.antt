-- What this crate's proofs use of other crates and of its specs.
pub use Rattle.crn_cert.proofs.CallerLemmas.{pair_places_are_pairs, range_bounds, sides_are_formed, vector_is_formed, wide_basis, zero_is_formed}
pub use Rattle.crn_cert.specs.Answered.{IsAnswer}
pub use Rattle.crn_cert.specs.Answers.{plain}
pub use Rattle.crn_cert.specs.ClassTests.{AreSideMarks}
pub use Rattle.crn_cert.specs.ConfluenceTests.{DoTerminalsGather, IsInSpace, least_from, others_than, tie_tests}
pub use Rattle.crn_cert.specs.Data.{IsBasisOf}
pub use Rattle.crn_cert.specs.Given.{GiveClasses}
pub use Rattle.crn_cert.specs.Law.{IsTrueOrOpen}
pub use Rattle.crn_cert.specs.Licensed.{AreAllCutPairs}
pub use Rattle.crn_cert.specs.Parts.{AreSides}
pub use Rattle.crn_cert.specs.Questions.{Earlier, IsNo, IsOpen, IsYes, Q11, Q12, Q2, Q4, Q7, on}
pub use Rattle.crn_cert.specs.Ranges.{AreBits, AreFree, AreFreeRows, IsFrom, IsNarrow}
pub use Rattle.crn_cert.specs.Says.{AreLinkageClasses, AreStrongClasses, IsCycle, from_zero}
pub use Rattle.crn_cert.specs.Tests.{AllHold}
pub use Rattle.crn_cert.specs.Valid.{HaveOneEach, IsFirstSplit, ends_at, exits, is_least_of_pair, is_within_terminal, linkage, linkage_count, pair_places, side_tests, strong}
pub use Rattle.crn_cert.specs.Verdicts.{tight}
pub use Rattle.crn_cert.specs.declared.answer.Gap.{Gap}
pub use Rattle.crn_cert.specs.declared.answer.Gap.TheVariants.{Rests, Wide}
pub use Rattle.crn_cert.specs.declared.answer.Proof.TheVariants.{Sides, Ties}
pub use Rattle.crn_cert.specs.declared.answer.Verdict.{Verdict}
pub use Rattle.crn_cert.specs.declared.answer.Verdict.TheVariants.{NoCycle, NoDependence, NoTerminal, NoVec, OnlyZero, Plane, Strong, Unknown, Yes, YesVec}
pub use Rattle.crn_farkas.proofs.CallerLemmas.{as_column, column_some, own_some}
pub use Rattle.crn_graph.specs.Pair.{GivesCutPair, HasSide, HasWayRound}
pub use Rattle.crn_rank.proofs.CallerLemmas.{wide_column}
pub use Rattle.crn_rank.specs.Rank.{IsWideStop}
pub use Rattle.crn_reg.specs.Inner.Normal.{AreZeroBefore, GathersFirst, IsFirstEntry, IsFirstSum, IsSameOrNegative, class_sum}
pub use Rattle.crn_reg.specs.Inner.Pairs.{GivesSides}
pub use Rattle.crn_reg.specs.Inner.Spaces.{ArePlane, AreTies, GivesSpace, HasNoColumn, HasNoOther, IsColumnPart, IsFirstColumn, IsFirstPlace, IsKeptSolution, IsLine, IsOnlyZero, IsSolution, IsTieOf, numbers_but}
pub use Rattle.crn_reg.specs.Inner.Verdicts.{by_dependence}
pub use Rattle.crn_reg.specs.declared.sides.Sides.TheVariants.{All, Cycle}
pub use Rattle.crn_reg.specs.declared.space.Space.TheVariants.{Line, Zero}
pub use Rattle.crn_shape.proofs.CallerLemmas.{pairs_no, pairs_yes}
pub use Rattle.crn_shape.specs.Pairs.{is_pair, pairs_to}
pub use Rattle.crn_tab.proofs.CallerLemmas.{as_row, isIn_or, one_column}
pub use Rattle.crn_tab.specs.Tableau.{AreEntered, AreSmall, NamesRows}
pub use Rattle.crn_vec.proofs.CallerLemmas.{all_from, amounts_within, and_cases, at_in, confluence_vectors_are_one, cut_back, dot-comm, dot-neg, dot-scale, dot_ratio, dot_single, dot_step, dot_zero, drop_seam, entry-column, entry-neg, entry-zeros, eq_or, filter_from, filter_no, filter_yes, flat_map_push, held, if_ok, in_at, in_cases, in_left, in_map, in_range, in_right, inside_at, is_between, label_sum, label_sum_is, length-column, length-rows_after, length-zeros, linked_back, lt_or, map_in, mul-neg, neg-mul, next_sum, no_zero, orthogonal, past_end, place_of, pos_pos, range_more, ratios_cross, reaches_step, reaction_in, rows_after, strong_back, sum_within, terminal_on, up_up, vector_long, weakly_reversible_by_reactions, within_append, within_at, zeros, zip_long, zip_push}
pub use Rattle.crn_vec.specs.Confluence.{AreConfluencesOne, HasConfluenceLine, InConfluenceSpace, IsConfluenceVector, IsNonzero, IsRegular, LeadsPositive, negative}
pub use Rattle.crn_vec.specs.CutPairs.{ArePairs, IsBetween, IsCutPair, IsFirstOfPair, IsTerminalPair}
pub use Rattle.crn_vec.specs.Deficiency.{HasOneTerminalEach, IsFirstSplitClass, IsLabelled, IsPositivelyDependent}
pub use Rattle.crn_vec.specs.Elementary.{AreProportional, InRowSpace, IsNamed, IsNamedColumn, NamesWide, width}
pub use Rattle.crn_vec.specs.Kept.{KeptInts, KeptNums}
pub use Rattle.crn_vec.specs.Linkage.{IsLabelCount, SameClass}
pub use Rattle.crn_vec.specs.Lists.{IsIn}
pub use Rattle.crn_vec.specs.Matrices.{mat_of}
pub use Rattle.crn_vec.specs.NetSystems.{by_species, confluence_system}
pub use Rattle.crn_vec.specs.Network.{IsNetwork, Net}
pub use Rattle.crn_vec.specs.Rank.{IsZero}
pub use Rattle.crn_vec.specs.Strong.{IsReaction, IsTerminal, IsWeaklyReversible, SameStrong}
pub use Rattle.crn_vec.specs.Sums.{SumsTo, label_marks}
pub use Rattle.crn_vec.specs.Vectors.{AreWithin, Mat, column, dot, entry, rows_of}
pub use Rattle.crn_vec.specs.Walks.{AreLabelsOf}
pub use Rattle.crn_vec.specs.declared.limits.TheConstants.{MAX_AMOUNT, WIDE_ENTRY}
pub use Rattle.std.proofs.Common.{Bool, List, [], ap, append_assoc, ap₂, arith, drop, false, get_or, inl, inr, length, map, ne_eqb, not, of_z, refl, subst, suc, sym, take, to_z, zero, ℕ, ◌&&◌, ◌*◌, ◌++◌, ◌+◌, ◌-◌, ◌<◌, ◌==◌, ◌∙◌, ◌∷◌, ◌≡◌, ◌≢◌, ◌≤◌, ◌⊎◌}
pub use Rattle.std.proofs.Math.Seq.{take-append_seam}
pub use Rattle.std.proofs.lemmas.Bool.{cases_Bool, eq-eqb, false≢true}
pub use Rattle.std.proofs.lemmas.Int.{ints}
pub use Rattle.std.proofs.lemmas.List.{ext_get_or, get_or-append-add, get_or-drop, get_or-map, get_or-take, get_or_append_left, length-append, length-drop, length-map, length-take-le, map-append, take_all, take_more}
pub use Rattle.std.proofs.lemmas.List.FromFn.{get_or-range_with_len, length-range_with_len}
pub use Rattle.std.specs.Int.{w128, ◌∣◌}
pub use Rattle.std.specs.List.{AllByRecursion, AllZip, filter, flat_map, range_with_len}
pub use Rattle.std.specs.Prelude.{IsTrue, if◌then◌else◌, neg_ℤ, negsuc, pos, slice_index_or, unsigned_abs, ℤ, ◌*ℤ◌, ◌+ℤ◌, ◌<ℤ◌, ◌↔◌, ◌≤ℤ◌}
