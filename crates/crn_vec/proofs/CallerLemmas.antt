-- What other crates may cite of this crate's proofs.

-- Lists of any kind: members, distinct members, facts of all members, and lists with a member put at the end.
pub use Rattle.crn_vec.proofs.Lists.{in_left, in_right, in_cases, in_push, in_map, map_in, at_in, in_at, same_place}
pub use Rattle.crn_vec.proofs.Lists.{distinct_push, map_distinct, map_same, map_twice, append_same, pair, and_cases}
pub use Rattle.crn_vec.proofs.Lists.{all_in, all_from, all_given, all_at, all_push, all_set, all_map, any_default}
pub use Rattle.crn_vec.proofs.Lists.{distinct_of_map, apart_of, all_append, flat_map_push, in_flat_map, of_flat_map}
pub use Rattle.crn_vec.proofs.Lists.{in_take, long_take, below_suc, written}
pub use Rattle.crn_vec.proofs.Level.{head_is, tail_is, minus-dot}
-- Tests that decide: whether two agree, and whether one finds a member.
pub use Rattle.crn_vec.proofs.Lists.{same_test, any_is, any_true, any_false, any_some, any_has, any_push, and_true, and_no, or_right, not_true, refused}
-- What holds of an answer that is there.
pub use Rattle.crn_vec.proofs.Lists.{if_ok}
-- Ascending lists of numbers, ranges, and the members of a list that pass a test.
pub use Rattle.crn_vec.proofs.Ascending.{above_in, above_few, above_ascending, above_lower, ascending_tail, ascending_at, above_suc, ascending_suc, above_zero}
pub use Rattle.crn_vec.proofs.Ascending.{above_push, ascending_push, same_members}
pub use Rattle.crn_vec.proofs.Ascending.{range_above, range_ascending, range_bounds, in_range, range_more, all_range}
pub use Rattle.crn_vec.proofs.Filters.{filter_from, filter_has, filter_distinct, filter_yes, filter_no, filter_above, filter_ascending}
pub use Rattle.crn_vec.proofs.Filters.{first_stays, first_goes, filter_few, count_yes, count_no}
-- The members of a list, each once, in order of first appearance.
pub use Rattle.crn_vec.proofs.Firsts.{firsts_from, firsts_has, firsts_distinct, firsts_all, firsts_known, firsts_new}
pub use Rattle.crn_vec.proofs.Firsts.{firsts_firsts, firsts_prefix, firsts_length, firsts_map}
-- Amounts of the names of a side, and tests that decide whether names, complexes, sides and reactions are equal.
pub use Rattle.crn_vec.proofs.Statements.{name_decides, row_decides, sides_decide, reaction_decides}
pub use Rattle.crn_vec.proofs.Statements.{none_said, has_name, amounts_same}
-- Lists by their entries: which places are inside, and lists related place by place.
pub use Rattle.crn_vec.proofs.Entries.{past_end, inside_or, lt_or, eq_or, below_or, look_at, abs_back, zip_from, zip_at, zip_long, within_from, dot_step, next_sum, zip_push, map_more}
pub use Rattle.crn_vec.proofs.Entries.{before_one, below_two}
-- The rows of a list that holds them one after another, and bounds of their entries.
pub use Rattle.crn_vec.proofs.RowLists.{length-rows_of, row_at, row_inside, rows_of_length, within_at, within_drop, within_take, within_rows}
pub use Rattle.crn_vec.proofs.RowLists.{within_append, amounts_within, row_count, drop_seam, length-rows_after, rows_after}
-- Numbers that 128 bits hold, and bounds of sums and products.
pub use Rattle.crn_vec.proofs.Held.{held, product_within, sum_within}
-- Places that are skipped in sums of products, what a zero adds, and bounds of lists in which places are set.
pub use Rattle.crn_vec.proofs.ZeroPlaces.{dot_skip, zero_adds, nought_adds, within_more, within_set, entry_of_zeros, zeros_within}
-- Ring laws and signs of whole numbers.
pub use Rattle.crn_vec.proofs.Ring.{distrib, distrib-right, assoc, left-comm, mul-neg, mul-sub, no_zero, pos_pos, is_zero, one_ne_zero}
pub use Rattle.crn_vec.proofs.Ring.{neg-mul, cancel_right, swap_factors, ratios_cross, one-mul, minus_one, zero_times, plus_none, abs_some, positive_some}
-- Dot products, sums and multiples of vectors, and combinations of rows.
pub use Rattle.crn_vec.proofs.Sums.{dot-comm, dot_none, dot_zero, dot_single, dot_two, dot_split, dot-scale, dot-plus, zeros-dot, transposed}
pub use Rattle.crn_vec.proofs.Sums.{plus, zeros, comb, dots, length-scale, length-plus, length-zeros, take-zeros, length-comb, length-dots}
pub use Rattle.crn_vec.proofs.Sums.{entry-zeros, entry-scale, take-scale, entry-plus, entry-comb, entry-dots}
-- A homogeneous system has a solution that is not zero, or no more unknowns than equations.
pub use Rattle.crn_vec.proofs.Null.{Zero, zero_from, Solves, Free, Fixed, null, dot-zero, dot-zeros, dot-scale-right}
-- More vectors than they have entries are dependent.
pub use Rattle.crn_vec.proofs.Many.{Related, too_many}
-- The number of independent vectors, and the rank.
pub use Rattle.crn_vec.proofs.Ranks.{base_gives_rank, rank_is_one_number, length-chosen, chosen_at, chosen-suc}
-- The two spaces of a matrix are orthogonal, and signs of dot products.
pub use Rattle.crn_vec.proofs.Orthogonal.{part, dot_not_below, dot_above, dot_above_two, negative_at, dot_opposite, across, orthogonal}
pub use Rattle.crn_vec.proofs.Orthogonal.{listed, length-listed, entry-listed, listed-sum, listed_zeros}
-- What a coordinate of each kind may have in a solution and in a cut.
pub use Rattle.crn_vec.proofs.KindLaws.{Quiet, quiet_part, agree, dual_after, row_after, settled_dual, settled_row, take_zero, weigh_zero}
pub use Rattle.crn_vec.proofs.KindLaws.{kind_takes, kind_from, kind_weighs, take_sum, sum_some, product_some, up_up, down_down}
-- A system with a cut has no solution, and the weights decide whether there is a cut.
pub use Rattle.crn_vec.proofs.Cuts.{kinds_at, dual_one, cut_long, cuts_exclude_solutions, weights_decide_cuts}
-- Numbering by first appearance, read from left to right.
pub use Rattle.crn_vec.proofs.Appearance.{IsNumberedInOrder, appears_in_order, in_order_appears}
-- The ends of the reactions of a network.
pub use Rattle.crn_vec.proofs.Ends.{ends_below}
-- Walks of any kind and their classes: joined, reversed, extended by a step, and kept by what each step keeps.
pub use Rattle.crn_vec.proofs.WalkLaws.{leads_here, leads_step, leads_then, leads_back, leads_keeps, linked_back}
pub use Rattle.crn_vec.proofs.WalkLaws.{class_link, class_then, class_back, reaches_step, reaches_then}
pub use Rattle.crn_vec.proofs.WalkLaws.{strong_here, strong_then, strong_back, strong_class, terminal_on}
pub use Rattle.crn_vec.proofs.WalkLaws.{weakly_reversible_by_reactions}
-- Reactions and complexes by their places, and terminal classes by their reactions.
pub use Rattle.crn_vec.proofs.Reached.{inside_at, place_of, reaction_in, marks_for, reached_marks, terminal_marks}
pub use Rattle.crn_vec.proofs.Reached.{terminal_by_reactions}
-- Marks of sides, and cut pairs.
pub use Rattle.crn_vec.proofs.SideLaws.{is_between, marking_is_cut, marks_are_sides, free_back, along_map, cut_back}
-- Unit vectors, and what walks gain of a vector over the complexes.
pub use Rattle.crn_vec.proofs.Flows.{unit, dot_unit, gain, flow, flow_sum, gain_same, gain_raised, none_gained}
-- Sums over the complexes with a property, and over the complexes of a label.
pub use Rattle.crn_vec.proofs.SumLaws.{sum_by, sums_for, sums_one, sum_scaled, dot_ratio}
pub use Rattle.crn_vec.proofs.LabelMarks.{label_sum, label_sum_is, length-label_marks, label_mark}
-- Columns and vectors of a network.
pub use Rattle.crn_vec.proofs.Carried.{entry-column, entry-minus, length-column, column_past, column-chosen, vector_long, gain_made}
-- Numbers that are apart by one relation are so by another.
pub use Rattle.crn_vec.proofs.Numbers.{apart_map}
-- The deficiency is one number, and so is the confluence vector of a regular network up to multiples.
pub use Rattle.crn_vec.proofs.Numbers.{number_is_one, deficiency_is_one}
pub use Rattle.crn_vec.proofs.Confluences.{confluence_vectors_are_one, negative_sum, negative_space}
-- Mirrors of prefixes.
pub use Rattle.crn_vec.proofs.Mirrors.{opposite-opposite, length-mirror, mirror-append, mirror-zero, mirror_feasible}
-- Visit lists, their lengths, and the budgets that they exceed.
pub use Rattle.crn_vec.proofs.VisitLaws.{are_one, longer_by, passes_by, passes_at, passes_first, passes_then}
pub use Rattle.crn_vec.proofs.VisitLaws.{visits_then, visits_ended}
pub use Rattle.crn_vec.proofs.VisitsReached.{are_reached}
pub use Rattle.crn_vec.proofs.Few.{visits_few, passes_few}
-- The sign problems of the influence tables of a network.
pub use Rattle.crn_vec.proofs.NetTables.{networks_have_tables, length-minus}
-- The rows and the columns of the systems of a network, and what they have past the species.
pub use Rattle.crn_vec.proofs.NetTables.{vector_at, column_long, row_is, rows_count}
pub use Rattle.crn_vec.proofs.NetRows.{reaction_long, vectors_count, vector_width, some_species, column_is, combined_past}
-- The kinds of the rows at a prefix, and the signs of numbers.
pub use Rattle.crn_vec.proofs.TableKinds.{column_in_a, row_in_a, column_in_b, row_in_b, zip_append, length-rows, one_at_most, count_at_most, plus-opposite, minus-opposite, sum-opposite, cond-opposite, products_none, all_refined, rows_longer, sign_opposite, rows_opposite, all_opposite, count-append, count_none}
pub use Rattle.crn_vec.proofs.PrefixKinds.{row_chosen, row_open, rows_are, kinds_more, sign_is}
-- The sign of a product, and of a negative, by the signs of the numbers.
pub use Rattle.crn_vec.proofs.SignTables.{product_is, opposite_is}
-- Labels of strong classes, reaction by reaction.
pub use Rattle.crn_vec.proofs.EvenLabels.{IsEvenAt, even_at, weak_if_even, uneven_not_weak}
pub use Rattle.crn_vec.proofs.TableLawful.{tables_are_lawful, tables_are_steady, dot-neg, entry-neg, length-neg, and_first}
pub use Rattle.crn_vec.proofs.Discordance.{tables_feasible, entry-after, share_sign, zeros_signs, some_or_zeros, some_not_zero, columns_have, columns_go, rows_have, rows_are as row_signs_are, frees_have, entry-image, vector_is, solution_of, parts_of}
-- The sign problem of the signals of a network, and the shape that it uses.
pub use Rattle.crn_vec.proofs.NetSignalLaws.{top_inside, some_is, none_some, option_or, shapes_are_one, multiples_share_signals, signals_feasible}
pub use Rattle.crn_vec.proofs.BothOrders.{signals_are_of_shape}
pub use Rattle.crn_vec.proofs.OppositeShapes.{negatives_have_opposite_shapes}
pub use Rattle.crn_vec.proofs.FewPairs.{networks_are_lawful, few_pairs, mark_yes, mark_no, other_step}
pub use Rattle.crn_vec.proofs.SignalLawful.{signals_are_lawful, signals_are_steady}
pub use Rattle.crn_vec.proofs.Shelves.{shelves_feasible, dot-last, kind_has, has_kind, pair_has, has_pair, top_full, pair_full, map-append, prefix_zip, back_zip}
