-- What this crate's proofs use of other crates and of its specs.
pub use Rattle.crn_cert.proofs.CallerLemmas.{formed_tree, leaves_nothing, wide_basis}
pub use Rattle.crn_cert.specs.Data.{IsBasisOf}
pub use Rattle.crn_cert.specs.Ranges.{IsNarrow}
pub use Rattle.crn_cert.specs.Trees.{AreNarrow, Both, IsFormedTree, IsValid, Level, Plan, RulesA, RulesB, Three}
pub use Rattle.crn_ctree.proofs.CallerLemmas.{has_both}
pub use Rattle.crn_ctree.specs.Due.{first}
pub use Rattle.crn_ctree.specs.Gives.{said_by}
pub use Rattle.crn_ctree.specs.declared.node.Node.{Node}
pub use Rattle.crn_ctree.specs.declared.node.Node.TheVariants.{CutA}
pub use Rattle.crn_endo_check.specs.Endo.{AreFormedTrees, AreValidTrees, CutsPartA, ValidEndosAreTrue, row_count}
pub use Rattle.crn_endo_check.specs.Endotactic.{HasLowerRise, IsAgainst, IsEndotacticAt, complex_at, height, reaction_at, rise}
pub use Rattle.crn_endo_check.specs.Inner.Entries.{itself}
pub use Rattle.crn_endo_check.specs.Inner.Weights.{weights_of}
pub use Rattle.crn_endo_check.specs.Kept.{KeptCheck, KeptSlopes}
pub use Rattle.crn_endo_check.specs.SlopeLaws.{AgainstIfFeasible, FeasiblePrefixesDecideEndotactic, slope_by}
pub use Rattle.crn_endo_check.specs.Slopes.{AtLeastZeroOrFree, IsSmallEnough, NeverAtLeastZero, at_least_zero_if, fall_kind, is_reactant, is_slope_closed, later, negated, option_of, others, reactants, rise_kind, row_above, slope_kinds, slope_matrix, slopes}
pub use Rattle.crn_endo_check.specs.declared.endo.Endo.TheVariants.{Large, No, Spent, Wide, Yes}
pub use Rattle.crn_shape.proofs.CallerLemmas.{narrow_within}
pub use Rattle.crn_vec.proofs.CallerLemmas.{above_ascending, above_in, all_at, all_from, all_opposite, all_refined, amounts_within, at_in, back_zip, below_or, count-append, count_at_most, count_none, dot-comm, dot-neg, dot_step, drop_seam, entry-column, entry-image, eq_or, filter_ascending, filter_few, filter_from, filter_has, filter_no, filter_yes, first_goes, first_stays, flat_map_push, frees_have, held, if_ok, in_cases, in_map, kinds_at, length-column, length-minus, length-neg, length-rows, length-rows_after, lt_or, map-append, map_same, map_twice, minus-dot, minus-opposite, neg-mul, next_sum, one_at_most, parts_of, past_end, plus-opposite, prefix_zip, range_ascending, reaction_long, row_chosen, row_open, row_signs_are, rows_after, rows_have, rows_longer, rows_opposite, sign_opposite, solution_of, some_species, sum_within, vector_at, vector_is, vector_long, vectors_count, weights_decide_cuts, within_append, within_at, zip_append, zip_at, zip_from}
pub use Rattle.crn_vec.specs.Concordance.{image, is_minus, is_plus, kind_of_sign, row_kinds, sign}
pub use Rattle.crn_vec.specs.Deficiency.{vectors}
pub use Rattle.crn_vec.specs.Elementary.{InDualSpace, NamesWide, width}
pub use Rattle.crn_vec.specs.Lists.{IsAscending, IsIn}
pub use Rattle.crn_vec.specs.Matrices.{mat_of}
pub use Rattle.crn_vec.specs.Network.{IsAmount, IsNetwork, JoinsTwo, Net, minus, reaction_vector}
pub use Rattle.crn_vec.specs.Problems.{IsFeasible, IsFull, IsLawful, IsSteady, SolvesA, mirror, opposite}
pub use Rattle.crn_vec.specs.Systems.{AreRuling, HasKind, IsCut, IsSolution, MayWeigh, is_signed, kind_at, one_if, signed_count}
pub use Rattle.crn_vec.specs.Vectors.{AreWithin, HasSign, Mat, column, dot, entry, rows_of}
pub use Rattle.crn_vec.specs.declared.limits.TheConstants.{MAX_AMOUNT, MAX_COMPLEXES, MAX_COORDINATES, MAX_SIGNED, WIDE_SOLUTION}
pub use Rattle.crn_vec.specs.declared.signs.Kind.{Kind}
pub use Rattle.crn_vec.specs.declared.signs.Kind.TheVariants.{Free, Neg, NonNeg, Pos}
pub use Rattle.crn_vec.specs.declared.signs.Sign.{Sign}
pub use Rattle.crn_vec.specs.declared.signs.Sign.TheVariants.{Minus, Plus, Zero}
pub use Rattle.std.proofs.Common.{Bool, Fits, List, [], add-one, ap, append_assoc, ap₂, arith, cond, drop, eqb, false, get_or, inl, inr, length, lit≤, map, of_z, refl, replicate, rules, subst, suc, sym, take, to_z, true, w64, zero, ℕ, ◌*◌, ◌++◌, ◌+◌, ◌-◌, ◌<◌, ◌∙◌, ◌∷◌, ◌≡◌, ◌≢◌, ◌≤◌, ◌⊎◌}
pub use Rattle.std.proofs.Math.IntN.{*ℤ_comm}
pub use Rattle.std.proofs.Math.Nat.{mul-le-mul}
pub use Rattle.std.proofs.Math.Seq.{take-append_seam}
pub use Rattle.std.proofs.lemmas.Bool.{eq-eqb, eqb-false, eqb-true, false≢true}
pub use Rattle.std.proofs.lemmas.Int.{by_lt_z, fits_signed_from_abs, ints, to_z-of_z}
pub use Rattle.std.proofs.lemmas.List.{get_or-append_right, get_or-map, get_or-replicate, get_or_append_left, length-append, length-map, length-replicate, length-take-le, take_all, take_more}
pub use Rattle.std.proofs.lemmas.List.Folds.{list_any-append}
pub use Rattle.std.proofs.lemmas.List.FromFn.{get_or-map-range_with_len, get_or-range_with_len, length-map-range_with_len, length-range_with_len}
pub use Rattle.std.specs.Int.{w128}
pub use Rattle.std.specs.List.{AllByRecursion, AllZip, filter, flat_map, list_any, range_with_len}
pub use Rattle.std.specs.Prelude.{FitsSigned, IsTrue, neg_ℤ, negsuc, not, pos, unsigned_abs, ℤ, ◌&&◌, ◌*ℤ◌, ◌+ℤ◌, ◌-ℤ◌, ◌<ℤ◌, ◌==◌, ◌||◌, ◌↔◌, ◌≤ℤ◌}
