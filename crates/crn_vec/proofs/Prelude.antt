-- What this crate's proofs use of other crates and of its specs.
pub use Rattle.crn_vec.specs.Concordance.{GoesWith, HasNegative, HasPositive, IsDiscordant, IsNought, IsTable, column_kind, concordance, image, is_minus, is_plus, kind_of_sign, kind_of_sum, kinds_a_of, kinds_b_of, product, products, row_kinds, shares, sign, signed_by, some_sign}
pub use Rattle.crn_vec.specs.Confluence.{ArePositiveMultiples, ConfluenceVectorsAreOne, GathersAt, HasConfluenceLine, InConfluenceSpace, IsConfluenceVector, IsNonzero, IsRegular, negative}
pub use Rattle.crn_vec.specs.CutPairs.{IsBetween, IsCutPair, IsFirstOfPair, IsFreeStep, IsMarking, IsOnSide, IsTerminalPair, MarksAreSides}
pub use Rattle.crn_vec.specs.Deficiency.{DeficiencyIsOne, IsComplex, IsPositive, IsPositiveDependence, vectors}
pub use Rattle.crn_vec.specs.Elementary.{InDualSpace, InRowSpace}
pub use Rattle.crn_vec.specs.Influence.{NetworksHaveTables}
pub use Rattle.crn_vec.specs.Linkage.{IsLinked, SameClass}
pub use Rattle.crn_vec.specs.Lists.{AreDistinct, IsAbove, IsAscending, IsIn, firsts}
pub use Rattle.crn_vec.specs.NetSignals.{AreTops, IsPairOf, IsShapeOf, IsSignalOf, IsSignalOver, MultiplesShareSignals, NegativesHaveOppositeShapes, NetworksAreLawful, ShapesAreOne, SignalsAreFeasible, SignalsAreOfShape, complex_of, opposite_pair, top_at}
pub use Rattle.crn_vec.specs.NetSystems.{by_species, reaction_system}
pub use Rattle.crn_vec.specs.Network.{IsAmount, IsFirstAppearance, IsNetwork, IsPartialNetwork, IsVector, JoinsTwo, Net, amount_in, amounts_in, ends, minus, reaction_vector, sides_eq, sides_of}
pub use Rattle.crn_vec.specs.Problems.{IsFeasible, IsFull, IsLawful, IsPrefix, IsSteady, Signed, SolvesA, SolvesB, all_zero, children, mirror, opposite, options_below}
pub use Rattle.crn_vec.specs.Rank.{BaseGivesRank, DependsOn, IsIndependent, IsRank, IsZero, RankIsOneNumber, chosen, combination_at}
pub use Rattle.crn_vec.specs.SignalLaws.{IsFew, SignalIfFeasible}
pub use Rattle.crn_vec.specs.Signals.{HasPairSign, IsShape, IsSignal, IsStoichiometric, Pair, Shape, complex_at, complex_row, is_shelf_closed, pair_kind, pair_kind_by, pair_row, shelf_at, shelf_kinds, shelf_matrix, shelf_of, signals, top_kind}
pub use Rattle.crn_vec.specs.Skips.{AreSkips, IsSkip}
pub use Rattle.crn_vec.specs.Strong.{AreRightStrongLabels, IsReaction, IsTerminal, IsWeaklyReversible, Reaches, ReactsTo, SameStrong, StaysStrong, TerminalByReactions, WeaklyReversibleByReactions}
pub use Rattle.crn_vec.specs.Sums.{AreMarks, SumsTo, label_marks}
pub use Rattle.crn_vec.specs.Systems.{AreRuling, CutsExcludeSolutions, HasKind, IsCut, IsSolution, MayTake, MayWeigh, WeightsDecideCuts, is_signed, kind_at, one_if, signed_count}
pub use Rattle.crn_vec.specs.TableLaws.{DiscordantIfFeasible}
pub use Rattle.crn_vec.specs.Vectors.{AreOfLength, AreWithin, HasSign, Mat, column, dot, entry, rows_of, scale}
pub use Rattle.crn_vec.specs.VisitList.{AreInPreorder, AreOne, AreReached, EndsVisits, IsBefore, IsEarlier, NoProblemLacksVisits, VisitsArePreorder}
pub use Rattle.crn_vec.specs.Visits.{IsReached, Passes, Visits, begun, below, child, ended, fallen, first, most_visits, opened, over, past, root}
pub use Rattle.crn_vec.specs.Walks.{AreApart, AreLabelsOf, IsAlong, IsNumberOf, LeadsTo}
pub use Rattle.crn_vec.specs.declared.limits.TheConstants.{MAX_AMOUNT, MAX_COMPLEXES, MAX_REACTIONS, MAX_SIGNED, MAX_SPECIES, WIDE_SOLUTION}
pub use Rattle.crn_vec.specs.declared.signs.Kind.{Kind}
pub use Rattle.crn_vec.specs.declared.signs.Kind.TheVariants.{Free, Neg, NonNeg, Pos, Zero as ZeroKind}
pub use Rattle.crn_vec.specs.declared.signs.Sign.{Sign}
pub use Rattle.crn_vec.specs.declared.signs.Sign.TheVariants.{Minus, Plus, Zero}
pub use Rattle.std.proofs.Common.{Bool, Global, IsTrue, List, Vec, [], add-one, ap, ap₂, arith, cond, drop, eqb, false, get_or, inl, inr, length, lit<, lit≤, map, ne_eqb, of_z, pow-suc, refl, replicate, set, slice_set, subst, suc, sym, take, to_z, true, vec_capacity, vec_len, zero, ℕ, ◌&&◌, ◌*◌, ◌++◌, ◌+◌, ◌-◌, ◌/◌, ◌<◌, ◌^◌, ◌↔◌, ◌∙◌, ◌∷◌, ◌≡◌, ◌≢◌, ◌≤◌, ◌⊎◌}
pub use Rattle.std.proofs.Math.Nat.{mul-le-mul, mul-le-mul_right, suc-mul}
pub use Rattle.std.proofs.Math.Seq.{drop-append_seam, take-append_seam}
pub use Rattle.std.proofs.lemmas.Bool.{cases_Bool, cases_eq, cases_lt, eq-eqb, eqb-true, false≢true, leb-true, lt-ltb, ltb-true}
pub use Rattle.std.proofs.lemmas.Bool.Decides.{Decides-eqb}
pub use Rattle.std.proofs.lemmas.Grind.{get_or-set_at}
pub use Rattle.std.proofs.lemmas.Int.{fits_signed_from_abs, ints, to_z-of_z, unsigned_abs-mul}
pub use Rattle.std.proofs.lemmas.List.{append-nil, append_assoc, drop-drop, drop-map, ext_get_or, get_or-append_right, get_or-drop, get_or-map, get_or-replicate, get_or-set_other, get_or-set_same, get_or-take, get_or_append_left, length-append, length-drop, length-map, length-replicate, length-set, length-take-le, take-map, take_more}
pub use Rattle.std.proofs.lemmas.List.Concat.{flat_map-append}
pub use Rattle.std.proofs.lemmas.List.Elements.{filter-append}
pub use Rattle.std.proofs.lemmas.List.Filters.{length-filter_both}
pub use Rattle.std.proofs.lemmas.List.Folds.{list_any-append}
pub use Rattle.std.proofs.lemmas.List.FromFn.{get_or-map-range_with_len, length-range_with_len}
pub use Rattle.std.proofs.lemmas.List.Sums.{length-filter, sum_by-cons}
pub use Rattle.std.proofs.lemmas.Slice.Eq.{bytes_eq-Decides}
pub use Rattle.std.specs.Bool.{Decides}
pub use Rattle.std.specs.Cmp.Lexicographic.{pointwise}
pub use Rattle.std.specs.Cmp.Rules.{signed_items}
pub use Rattle.std.specs.Int.{w128}
pub use Rattle.std.specs.List.{AllByRecursion, AllZip, filter, flat_map, list_any, range_with_len}
pub use Rattle.std.specs.Ordering.{int_eq}
pub use Rattle.std.specs.Prelude.{Err, IfOk, None, Ok, Option, Result, Some, count_by, if◌then◌else◌, nat_abs, nat_le, nat_lt, neg_ℤ, negsuc, not, pos, slice_index, slice_index_or, unsigned_abs, ℤ, ◌*ℤ◌, ◌+ℤ◌, ◌-ℤ◌, ◌<ℤ◌, ◌==◌, ◌||◌, ◌≤ℤ◌}
pub use Rattle.std.specs.Str.{bytes_eq}
