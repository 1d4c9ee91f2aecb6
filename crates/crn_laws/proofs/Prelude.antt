-- What this crate's proofs use of other crates and of its specs.
pub use Rattle.crn_laws.specs.Implied.{ClassRanksSumToAtLeast, DeficiencyZeroGivesDeficiencyOne, NetworksHaveDeficiencies, WeaklyReversibleAreDependent, WeaklyReversibleAreRegularByCutPairs, WeaklyReversibleAreRegularOrFail, WeaklyReversibleHaveOneTerminalEach}
pub use Rattle.crn_laws.specs.Renumbered.{AreAlike, HasSignal, IsInOrder, IsMoved, IsRenumbered, IsShared, IsVectorAnew, RenumberedShareClasses, RenumberedShareConcordance, RenumberedShareConfluence, RenumberedShareDependence, RenumberedShareHypotheses, RenumberedShareNumbers, RenumberedShareSignals, Renumbering, StatementsInAnyOrder}
pub use Rattle.crn_laws.specs.Systems.{HasFullRows, NetworksHaveFullRows}
pub use Rattle.crn_space.proofs.CallerLemmas.{IsPart, class_deficiencies_sum_to_at_most, counted, counted_all, few_together, free_or, head_counts, number_of_classes, one_label, part_few, part_filter, part_filters, part_independent, part_map, part_places, range_distinct, rank_leaves, taken, taken_in, taken_vectors, zero_entry, zero_more}
pub use Rattle.crn_text.specs.Sides.{all_statements}
pub use Rattle.crn_text.specs.Spells.{Spells}
pub use Rattle.crn_text.specs.Tokens.{lines}
pub use Rattle.crn_vec.proofs.CallerLemmas.{above_in, above_zero, abs_some, all_at, all_from, all_given, all_in, along_map, ascending_suc, ascending_tail, at_in, base_gives_rank, below_or, below_suc, chosen-suc, class_back, class_link, class_then, column_past, comb, combined_past, confluence_vectors_are_one, cut_back, deficiency_is_one, distinct_of_map, distrib-right, dot-scale, dot_zero, entry-column, entry-comb, entry-listed, entry-minus, entry-plus, entry-scale, entry-zeros, eq_or, filter_distinct, filter_from, filter_has, first_goes, first_stays, firsts_from, firsts_has, free_back, gain, gain_made, has_name, in_at, in_flat_map, in_left, in_map, in_range, in_right, inside_at, is_between, leads_here, leads_keeps, length-column, length-label_marks, length-listed, length-minus, length-plus, length-scale, length-zeros, listed, lt_or, map_distinct, map_in, minus_one, mul-neg, name_decides, neg-mul, networks_have_tables, none_said, none_some, option_or, pair, past_end, place_of, plus, pos_pos, positive_some, rank_is_one_number, reaction_in, reaction_long, row_count, rows_count, same_place, sides_decide, some_is, top_inside, vector_at, vector_long, vector_width, vectors_count, weakly_reversible_by_reactions, zeros, zeros-dot, zip_at, zip_from}
pub use Rattle.crn_vec.specs.Concordance.{GoesWith, HasNegative, HasPositive, IsDiscordant, IsNought, image, shares, sign, signed_by}
pub use Rattle.crn_vec.specs.Confluence.{ArePositiveMultiples, HasConfluenceLine, InConfluenceSpace, IsConfluenceVector, IsNormalVector, IsRegular, negative}
pub use Rattle.crn_vec.specs.CutPairs.{IsBetween, IsCutPair, IsFreeStep, IsOnSide}
pub use Rattle.crn_vec.specs.Deficiency.{AreAtMostOne, AreDeficiencies, HasOneTerminalEach, HasTerminalClasses, IsClassDeficiency, IsComplex, IsConservative, IsDeficiency, IsDeficiencyOne, IsLabelled, IsPositive, IsPositivelyDependent, class_members, class_reactions, class_vectors, vectors}
pub use Rattle.crn_vec.specs.Elementary.{IsPrimitive}
pub use Rattle.crn_vec.specs.Influence.{IsConcordantNet, IsStronglyConcordantNet, plain_table, strong_table}
pub use Rattle.crn_vec.specs.Linkage.{IsLabelCount, IsLinked, SameClass}
pub use Rattle.crn_vec.specs.Lists.{AreDistinct, IsAbove, IsAscending, IsIn, firsts}
pub use Rattle.crn_vec.specs.NetSignals.{AreTops, complex_of, top_at}
pub use Rattle.crn_vec.specs.NetSystems.{by_species, reaction_system}
pub use Rattle.crn_vec.specs.Network.{Holds, IsNetwork, JoinsTwo, Net, Statement, amount_at, amount_in, amounts_in, ends, minus, names_in, reaction_vector, said_by, sides_eq, sides_of}
pub use Rattle.crn_vec.specs.Rank.{DependsOn, IsChoice, IsIndependent, IsRank, IsZero, chosen, combination_at}
pub use Rattle.crn_vec.specs.Signals.{HasPairSign, IsShape, Shape, complex_at, complex_row, pair_row, shelf_at, shelf_matrix, shelf_of}
pub use Rattle.crn_vec.specs.Strong.{IsReaction, IsReversible, IsTerminal, IsWeaklyReversible, Reaches, ReactsTo, SameStrong, StaysStrong}
pub use Rattle.crn_vec.specs.Sums.{AreMarks, SumsTo, label_marks}
pub use Rattle.crn_vec.specs.Vectors.{AreOfLength, HasSign, column, dot, entry, scale}
pub use Rattle.crn_vec.specs.Walks.{AreApart, IsAlong, IsNumberOf, LeadsTo}
pub use Rattle.crn_vec.specs.declared.signs.Sign.{Sign}
pub use Rattle.crn_vec.specs.declared.signs.Sign.TheVariants.{Zero}
pub use Rattle.std.proofs.Common.{Bool, List, [], ap, ap₂, arith, get_or, inl, inr, length, length-append, map, refl, subst, suc, sym, true, zero, ℕ, ◌*◌, ◌++◌, ◌+◌, ◌-◌, ◌<◌, ◌==◌, ◌∙◌, ◌∷◌, ◌≡◌, ◌≢◌, ◌≤◌, ◌⊎◌}
pub use Rattle.std.proofs.Math.Nat.{dvd-mul_right, eq_of_mul-eq-mul_left}
pub use Rattle.std.proofs.lemmas.Bool.{cases_Bool, eq-eqb, eqb-true, ne_eqb}
pub use Rattle.std.proofs.lemmas.Int.{ints, unsigned_abs-mul}
pub use Rattle.std.proofs.lemmas.List.{ext_get_or, get_or-map, length-map}
pub use Rattle.std.proofs.lemmas.List.FromFn.{get_or-range_with_len, length-range_with_len}
pub use Rattle.std.proofs.lemmas.List.Sums.{sum_by-cons}
pub use Rattle.std.proofs.lemmas.Nat.Gcd.{dvd-zero}
pub use Rattle.std.specs.Int.{◌∣◌}
pub use Rattle.std.specs.List.{AllByRecursion, flat_map, range_with_len}
pub use Rattle.std.specs.Prelude.{None, Option, Some, filter, neg_ℤ, negsuc, pos, sum, unsigned_abs, ℤ, ◌*ℤ◌, ◌+ℤ◌, ◌-ℤ◌, ◌<ℤ◌, ◌≤ℤ◌}
pub use Rattle.std.specs.Str.{bytes_eq}
