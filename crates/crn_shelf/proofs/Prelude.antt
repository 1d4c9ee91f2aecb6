-- What this crate's proofs use of other crates and of its specs.
pub use Rattle.crn_cert.proofs.CallerLemmas.{count_places, formed_tree, hold_append, hold_parts, leaves_nothing, none_at_all, shapes_exist, signal_trees_fit, tests_decide_valid_trees, tops_are_counted, vector_is_given, wide_basis}
pub use Rattle.crn_cert.specs.Answered.{IsAnswer}
pub use Rattle.crn_cert.specs.Answers.{plain}
pub use Rattle.crn_cert.specs.Formed.{IsWideGap}
pub use Rattle.crn_cert.specs.Licensed.{IsSignalWide, PassForSignals}
pub use Rattle.crn_cert.specs.Nodes.{Fits, Said}
pub use Rattle.crn_cert.specs.Parts.{AreSignalRows, IsSignalTree}
pub use Rattle.crn_cert.specs.Questions.{Earlier, IsOpen, Q12, Q13, Q2, on, terminal_of, vector_given}
pub use Rattle.crn_cert.specs.Ranges.{AreFree, IsNarrow}
pub use Rattle.crn_cert.specs.Says.{AreStrongClasses, IsShelf, IsTrueOf, IsTurn, by_turn}
pub use Rattle.crn_cert.specs.Tests.{AllHold}
pub use Rattle.crn_cert.specs.TreeSizes.{HasFewNodes}
pub use Rattle.crn_cert.specs.TreeTests.{tree_tests}
pub use Rattle.crn_cert.specs.Trees.{Both, IsFormedTree, Level, Plan, RulesA, RulesB, Three, node_count, places}
pub use Rattle.crn_cert.specs.Valid.{HasVector, IsNodeOf, IsSignalNode, pair_places}
pub use Rattle.crn_cert.specs.declared.answer.Answer.{Answer}
pub use Rattle.crn_cert.specs.declared.answer.Gap.TheVariants.{Budget, Wide}
pub use Rattle.crn_cert.specs.declared.answer.Verdict.{Verdict}
pub use Rattle.crn_cert.specs.declared.answer.Verdict.TheVariants.{Unknown, YesSignal}
pub use Rattle.crn_conc.proofs.CallerLemmas.{all_settle, coordinate_at, coordinates_long, rows_settle, solution_free}
pub use Rattle.crn_shape.specs.Sides.{AreClassesBy}
pub use Rattle.crn_shelf.specs.Given.{GiveVector}
pub use Rattle.crn_shelf.specs.Inner.Answers.{IsFoundAnswer, IsStopAnswer, one_answer, shelf_number, two_answer}
pub use Rattle.crn_shelf.specs.Inner.Choices.{AreChoices, AreJoined, IsAdded, IsChoice, IsWith, added_by, added_kind, joined, kinds_after}
pub use Rattle.crn_shelf.specs.Inner.Shapes.{EndsFor, StopsFor}
pub use Rattle.crn_shelf.specs.Order.{IsForNegative}
pub use Rattle.crn_shelf.specs.Visits.{ListSignalVisits, ListsVisitsFor}
pub use Rattle.crn_shelf.specs.declared.choice.Choice.{Choice}
pub use Rattle.crn_sign.proofs.CallerLemmas.{firm_kinds, put_here, put_other}
pub use Rattle.crn_sign.specs.Options.{AskKinds, kind_in, kind_of_bits, none, word_at, word_count}
pub use Rattle.crn_sign.specs.Search.{IsSearchEnd, IsSearchStop}
pub use Rattle.crn_sign.specs.declared.bits.Bits.{Bits}
pub use Rattle.crn_sign.specs.declared.end.SearchEnd.{SearchEnd}
pub use Rattle.crn_sign.specs.declared.end.SearchEnd.TheVariants.{Found, Refuted, Spent}
pub use Rattle.crn_sign.specs.declared.fault.SearchStop.{SearchStop}
pub use Rattle.crn_sign.specs.declared.fault.SearchStop.TheVariants.{NoMemory, WideA, WideB}
pub use Rattle.crn_vec.proofs.CallerLemmas.{all_at, all_in, column_in_b, confluence_vectors_are_one, eq_or, held, if_ok, length-rows, length-rows_after, length-scale, longer_by, lt_or, map_more, negatives_have_opposite_shapes, number_is_one, row_in_b, rows_after, rows_count, shapes_are_one, signals_are_lawful, signals_are_of_shape, signals_are_steady, signals_feasible, strong_back, strong_then, within_append, within_at, written}
pub use Rattle.crn_vec.specs.Concordance.{kind_of_sign, kinds_b_of, row_kinds, sign}
pub use Rattle.crn_vec.specs.Confluence.{HasConfluenceLine, IsConfluenceVector, IsNormalVector, IsRegular, negative}
pub use Rattle.crn_vec.specs.Deficiency.{IsComplex}
pub use Rattle.crn_vec.specs.Elementary.{NamesWide, width}
pub use Rattle.crn_vec.specs.Kept.{KeptInts, KeptNums}
pub use Rattle.crn_vec.specs.Lists.{IsIn}
pub use Rattle.crn_vec.specs.Matrices.{mat_of}
pub use Rattle.crn_vec.specs.NetSignals.{HasNoSignal, IsShapeOf, IsSignalOf, opposite_pair, opposite_shape}
pub use Rattle.crn_vec.specs.NetSystems.{reaction_system}
pub use Rattle.crn_vec.specs.Network.{IsNetwork, Net}
pub use Rattle.crn_vec.specs.Problems.{Signed, opposite}
pub use Rattle.crn_vec.specs.Signals.{Pair, Shape, complex_row, pair_kind, pair_kind_by, pair_row, shelf_at, shelf_kinds, shelf_matrix, signals, top_kind}
pub use Rattle.crn_vec.specs.Strong.{IsTerminal, IsWeaklyReversible, SameStrong}
pub use Rattle.crn_vec.specs.Systems.{kind_at}
pub use Rattle.crn_vec.specs.Vectors.{AreWithin, Mat, entry, rows_of}
pub use Rattle.crn_vec.specs.Visits.{IsVisitList, PassesBudget, root}
pub use Rattle.crn_vec.specs.declared.limits.TheConstants.{MAX_AMOUNT, MAX_BUDGET}
pub use Rattle.crn_vec.specs.declared.signs.Kind.{Kind}
pub use Rattle.crn_vec.specs.declared.signs.Kind.TheVariants.{Free, Neg, NonNeg, Pos, Zero as ZeroKind}
pub use Rattle.crn_vec.specs.declared.signs.Sign.{Sign}
pub use Rattle.crn_vec.specs.declared.signs.Sign.TheVariants.{Minus, Plus, Zero}
pub use Rattle.std.proofs.Common.{Bool, List, [], ap, append_assoc, ap₂, arith, cond, drop, false, get_or, inl, inr, length, length-take-le, map, max, of_z, refl, replicate, set, subst, suc, sym, take, to_z, true, zero, ℕ, ◌%◌, ◌*◌, ◌++◌, ◌+◌, ◌-◌, ◌/◌, ◌<◌, ◌∙◌, ◌∷◌, ◌≡◌, ◌≢◌, ◌≤◌, ◌⊎◌}
pub use Rattle.std.proofs.lemmas.Bool.{false≢true, le-ltb, lt-ltb}
pub use Rattle.std.proofs.lemmas.Int.{ints, to_z-of_z}
pub use Rattle.std.proofs.lemmas.List.{drop-append-le, drop_all, get_or-append_right, get_or-set_other, get_or-set_same, get_or_append_left, length-append, length-drop, length-map, length-replicate, length-set, take-append-le, take_all, take_more}
pub use Rattle.std.proofs.lemmas.Nat.Bits.{bit_at-zero, bit_at_or}
pub use Rattle.std.specs.Int.{bit_at, w128}
pub use Rattle.std.specs.List.{AllByRecursion, flat_map}
pub use Rattle.std.specs.Option.{IsSome, IsSomeAnd}
pub use Rattle.std.specs.Prelude.{Err, IsTrue, MatchResult, None, Ok, Option, Result, Some, if◌then◌else◌, nat_lt, negsuc, pos, ℤ}
