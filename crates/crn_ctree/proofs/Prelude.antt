-- What this crate's proofs use of other crates and of its specs.
pub use Rattle.crn_cert.proofs.CallerLemmas.{hold_append, leaves_nothing, vector_entry}
pub use Rattle.crn_cert.specs.Faults.{BadLeaf, Fault, NodeNotAllowed, fault_number}
pub use Rattle.crn_cert.specs.Nodes.{AreNumbersFor, AreThoseOfTrees, CutsA, CutsB, Fits, Flats, Passing, Said, Splits, done, nodes, rest_after, then}
pub use Rattle.crn_cert.specs.Ranges.{AreFree, IsNarrow}
pub use Rattle.crn_cert.specs.Says.{by_turn}
pub use Rattle.crn_cert.specs.Tests.{AllHold, FailsFirst, Test, test}
pub use Rattle.crn_cert.specs.TreeTests.{tree_tests}
pub use Rattle.crn_cert.specs.Trees.{Both, IsFormedTree, IsValid, Level, Plan, RulesA, RulesB, Three, node_count}
pub use Rattle.crn_cert.specs.Valid.{IsNodeOf, IsSignalNode}
pub use Rattle.crn_ctree.specs.Due.{KeptTree, first, rest}
pub use Rattle.crn_ctree.specs.Gives.{HasShape, IsTaken, NodeGives, SharedGives, is_cut, said_by}
pub use Rattle.crn_ctree.specs.Inner.Kinds.{column_from, cut_by, kinds_of, matrix_by, matrix_of, opposite_kind, part_of, weights_of}
pub use Rattle.crn_ctree.specs.Inner.Pairs.{AreOfColumns}
pub use Rattle.crn_ctree.specs.Inner.Signals.{AreOnShelves, AreRightRises}
pub use Rattle.crn_ctree.specs.Inner.Skips.{FitSkips}
pub use Rattle.crn_ctree.specs.Inner.Spots.{AllWeigh, AreBelow, SomeSigned, column_numbers, columns_of, row_spots, rows_by, shelf_rows, spots_from, spots_kind}
pub use Rattle.crn_ctree.specs.Known.{KeptCut, KeptCuts}
pub use Rattle.crn_ctree.specs.Laws.{CompleteIfAndOnlyIfValid, CompleteTreesShow, FirstFaultsAreThoseOfTests, FirstSignalFaultsAreThoseOfTests, SignalNodesAreOfShape, code_at}
pub use Rattle.crn_ctree.specs.Paths.{KeptPath, due_after, due_by, later}
pub use Rattle.crn_ctree.specs.Problem.{problem_of, table_of}
pub use Rattle.crn_ctree.specs.Shared.{IsShared, place_of, said_by_shared, said_with}
pub use Rattle.crn_ctree.specs.declared.cut.Part.{Part}
pub use Rattle.crn_ctree.specs.declared.cut.Part.TheVariants.{A, B}
pub use Rattle.crn_ctree.specs.declared.cut.System.{System}
pub use Rattle.crn_ctree.specs.declared.fault.TreeFault.{TreeFault}
pub use Rattle.crn_ctree.specs.declared.fault.TreeFault.TheVariants.{TreeEndsEarly, WrongShape}
pub use Rattle.crn_ctree.specs.declared.node.Node.{Node}
pub use Rattle.crn_ctree.specs.declared.node.Step.{Step}
pub use Rattle.crn_ctree.specs.declared.problem.InfluenceTable.{InfluenceTable}
pub use Rattle.crn_ctree.specs.declared.problem.InfluenceTable.TheVariants.{Plain, Strong}
pub use Rattle.crn_ctree.specs.declared.problem.Problem.{Problem}
pub use Rattle.crn_ctree.specs.declared.problem.Problem.TheVariants.{Concordance, Signals}
pub use Rattle.crn_ctree.specs.declared.shared.SharedCut.{SharedCut}
pub use Rattle.crn_ctree.specs.declared.spots.Spot.{Spot}
pub use Rattle.crn_shape.proofs.CallerLemmas.{dot_within, narrow_within, shelf_kinds_long}
pub use Rattle.crn_shape.specs.Shapes.{no_pair}
pub use Rattle.crn_vec.proofs.CallerLemmas.{all_at, all_given, and_cases, and_true, column_long, columns_go, columns_have, cond-opposite, dot-comm, dot_none, dot_step, drop_seam, entry-column, eq_or, has_kind, has_pair, held, kind_has, kinds_at, length-column, length-rows, lt_or, minus-opposite, mul-sub, networks_have_tables, next_sum, pair_full, pair_has, past_end, plus-opposite, product_is, products_none, row_in_a, row_in_b, rows_count, shapes_are_one, sign_is, signals_are_steady, signals_feasible, some_not_zero, some_or_zeros, sum-opposite, sum_within, tables_are_steady, tables_feasible, top_full, weigh_zero, weights_decide_cuts, within_at, zeros_signs, zip_at, zip_from}
pub use Rattle.crn_vec.specs.Concordance.{HasNegative, HasPositive, IsConcordant, IsDiscordant, IsNought, IsTable, column_kind, concordance, image, is_minus, is_plus, column_kind as kind_of_column, kind_of_sum, kinds_a_of, kinds_b_of, product, products, row_kinds, sign, some_sign}
pub use Rattle.crn_vec.specs.Confluence.{IsRegular}
pub use Rattle.crn_vec.specs.Deficiency.{vectors}
pub use Rattle.crn_vec.specs.Elementary.{InDualSpace, width}
pub use Rattle.crn_vec.specs.Influence.{plain_table, strong_table}
pub use Rattle.crn_vec.specs.Kept.{KeptInts}
pub use Rattle.crn_vec.specs.NetSignals.{HasNoSignal, IsShapeOf}
pub use Rattle.crn_vec.specs.NetSystems.{by_species, reaction_system}
pub use Rattle.crn_vec.specs.Network.{IsNetwork, Net, minus, reaction_vector, sides_of}
pub use Rattle.crn_vec.specs.Problems.{Signed, all_zero, children, opposite, options_below}
pub use Rattle.crn_vec.specs.Signals.{HasPairSign, IsShape, IsSignal, Pair, Shape, complex_at, complex_row, pair_kind, pair_row, shelf_at, shelf_matrix, shelf_of, signals, top_kind}
pub use Rattle.crn_vec.specs.Systems.{AreRuling, HasKind, IsCut, MayWeigh, is_signed, kind_at}
pub use Rattle.crn_vec.specs.Vectors.{AreWithin, HasSign, Mat, column, dot, entry}
pub use Rattle.crn_vec.specs.Visits.{root}
pub use Rattle.crn_vec.specs.declared.limits.TheConstants.{MAX_AMOUNT, MAX_SPECIES, WIDE_SOLUTION}
pub use Rattle.crn_vec.specs.declared.signs.Kind.{Kind}
pub use Rattle.crn_vec.specs.declared.signs.Kind.TheVariants.{Free, Neg, NonNeg, Pos, Zero as ZeroKind}
pub use Rattle.crn_vec.specs.declared.signs.Sign.{Sign}
pub use Rattle.crn_vec.specs.declared.signs.Sign.TheVariants.{Minus, Plus, Zero}
pub use Rattle.std.proofs.Common.{Bool, List, [], ap, ap₂, arith, cond, drop, drop-cons, false, get_or, inl, inr, length, map, of_z, refl, replicate, slice_set, subst, suc, sym, take, take_all, to_z, true, vec_capacity, vec_len, zero, ℕ, ◌*◌, ◌++◌, ◌+◌, ◌-◌, ◌<◌, ◌^◌, ◌∙◌, ◌∷◌, ◌≡◌, ◌≢◌, ◌≤◌, ◌⊎◌}
pub use Rattle.std.proofs.Math.Bool.{or-false}
pub use Rattle.std.proofs.Math.IntN.{*ℤ_comm}
pub use Rattle.std.proofs.lemmas.Bool.{eq-eqb, eqb-true, false≢true, le-ltb, lt-ltb}
pub use Rattle.std.proofs.lemmas.Int.{ints, to_z-of_z}
pub use Rattle.std.proofs.lemmas.List.{append-nil, append_assoc, ext_get_or, get_or-append_right, get_or-map, get_or-set_other, get_or-set_same, get_or_append_left, length-append, length-map, length-replicate, length-set}
pub use Rattle.std.proofs.lemmas.List.FromFn.{get_or-map-range_with_len, length-range_with_len}
pub use Rattle.std.specs.Int.{w128}
pub use Rattle.std.specs.List.{AllByRecursion, AllZip, range_with_len}
pub use Rattle.std.specs.Option.{IsSomeAnd}
pub use Rattle.std.specs.Prelude.{Err, IsTrue, None, Ok, Option, Result, Some, neg_ℤ, negsuc, pos, unsigned_abs, ℤ, ◌&&◌, ◌*ℤ◌, ◌+ℤ◌, ◌-ℤ◌, ◌==◌, ◌||◌, ◌↔◌}
