-- What this crate's proofs use of other crates and of its specs.
pub use Rattle.crn_cert.proofs.CallerLemmas.{pair_places_are_pairs, some_top, tested_marks_are_sides, tops_are, tops_below, tops_of, widths}
unfoldable pub use Rattle.crn_cert.proofs.CallerLemmas.{top_for as top_of, zeros_below as zeros_to}
pub use Rattle.crn_cert.specs.ClassTests.{AreSideMarks}
pub use Rattle.crn_cert.specs.Parts.{AreSides as AreFormedSides}
pub use Rattle.crn_cert.specs.Questions.{Earlier, Q2, on}
pub use Rattle.crn_cert.specs.Ranges.{AreBits, IsNarrow}
pub use Rattle.crn_cert.specs.Says.{AreStrongClasses, IsTrueOf, from_zero}
pub use Rattle.crn_cert.specs.Tests.{AllHold}
pub use Rattle.crn_cert.specs.Valid.{ends_at, is_least_of_pair, is_same_pair, linkage, pair_places, side_tests}
pub use Rattle.crn_shape.specs.Inner.Pairs.{GoesAcross, HasSum, IsFirstAcross, IsPairFor, IsSide, opposite_linked}
pub use Rattle.crn_shape.specs.Inner.Tops.{top_for, zeros_below}
pub use Rattle.crn_shape.specs.Pairs.{is_pair, is_within, pairs_to}
pub use Rattle.crn_shape.specs.Shapes.{AreForShape, IsPairIn, ends_of, no_pair, pair_of, shape_of}
pub use Rattle.crn_shape.specs.Sides.{AreSides, IsSideOf}
pub use Rattle.crn_shape.specs.declared.pairs.LinkedPair.{LinkedPair}
pub use Rattle.crn_vec.proofs.CallerLemmas.{all_append, all_at, all_in, all_map, all_push, amounts_within, any_has, at_in, before_one, dot-comm, eq_or, few_pairs, filter_no, filter_yes, free_back, held, in_map, in_range, inside_at, leads_back, leads_here, length-rows, lt_or, map_more, mark_no, mark_yes, one_ne_zero, other_step, product_within, range_more, reaction_in, reaction_long, row_chosen, row_open, sum_within, top_inside, within_at, within_from, zip_push}
pub use Rattle.crn_vec.specs.Concordance.{row_kinds}
pub use Rattle.crn_vec.specs.Confluence.{IsRegular}
pub use Rattle.crn_vec.specs.CutPairs.{IsBetween, IsFirstOfPair, IsFreeStep, IsOnSide, IsTerminalPair}
pub use Rattle.crn_vec.specs.Deficiency.{IsLabelled}
pub use Rattle.crn_vec.specs.Elementary.{width}
pub use Rattle.crn_vec.specs.Linkage.{IsLinked}
pub use Rattle.crn_vec.specs.Lists.{IsIn}
pub use Rattle.crn_vec.specs.NetSignals.{AreTops, IsPairOf, IsShapeOf, opposite_pair, opposite_shape, top_at}
pub use Rattle.crn_vec.specs.Network.{IsNetwork, IsVector, Net, reaction_vector}
pub use Rattle.crn_vec.specs.Signals.{Pair, Shape, complex_row, pair_kind, pair_row, shelf_kinds, shelf_matrix, top_kind}
pub use Rattle.crn_vec.specs.Strong.{IsReaction}
pub use Rattle.crn_vec.specs.Sums.{AreMarks}
pub use Rattle.crn_vec.specs.Systems.{kind_at}
pub use Rattle.crn_vec.specs.Vectors.{AreWithin, dot, entry}
pub use Rattle.crn_vec.specs.declared.limits.TheConstants.{MAX_AMOUNT, MAX_COMPLEXES, WIDE_SOLUTION}
pub use Rattle.crn_vec.specs.declared.signs.Kind.{Kind}
pub use Rattle.crn_vec.specs.declared.signs.Kind.TheVariants.{Free}
pub use Rattle.crn_vec.specs.declared.signs.Sign.{Sign}
pub use Rattle.std.proofs.Common.{Bool, List, [], ap, ap₂, arith, cond, drop, false, get_or, inl, inr, length, map, not, refl, subst, suc, sym, take, true, zero, ℕ, ◌&&◌, ◌*◌, ◌++◌, ◌+◌, ◌-◌, ◌<◌, ◌==◌, ◌^◌, ◌||◌, ◌∙◌, ◌∷◌, ◌≡◌, ◌≤◌, ◌⊎◌}
pub use Rattle.std.proofs.Math.Seq.{take-append_seam}
pub use Rattle.std.proofs.lemmas.Bool.{and_parts, cases_Bool, cases_lt, eq-eqb, eqb-true, false≢true, or_cases, or_parts}
pub use Rattle.std.proofs.lemmas.Int.{ints, to_z-of_z}
pub use Rattle.std.proofs.lemmas.List.{ext_get_or, get_or-append_right, get_or-map, get_or-set_other, get_or-set_same, get_or_append_left, length-append, length-map, length-set, take_more, with_items_is}
pub use Rattle.std.specs.Int.{w128}
pub use Rattle.std.specs.List.{AllByRecursion, AllZip, list_any, range_with_len}
pub use Rattle.std.specs.Prelude.{None, Option, Some, filter, neg_ℤ, negsuc, pos, slice_set, unsigned_abs, ℤ, ◌*ℤ◌}
