-- What this crate's proofs use of other crates and of its specs.
pub use Rattle.crn_cert.proofs.CallerLemmas.{count_places, formed_tree, tests_decide_valid_trees, valid_answers_are_true, wide_basis}
pub use Rattle.crn_cert.specs.Answered.{IsAnswer}
pub use Rattle.crn_cert.specs.Answers.{plain as plain_answer}
pub use Rattle.crn_cert.specs.Data.{IsBasisOf}
pub use Rattle.crn_cert.specs.Formed.{IsFormed}
pub use Rattle.crn_cert.specs.Nodes.{Fits}
pub use Rattle.crn_cert.specs.Questions.{Earlier, Q14, Q15, Question}
pub use Rattle.crn_cert.specs.Ranges.{AreFree, IsNarrow}
pub use Rattle.crn_cert.specs.Tests.{AllHold}
pub use Rattle.crn_cert.specs.TreeTests.{tree_tests}
pub use Rattle.crn_cert.specs.Trees.{IsFormedTree, Plan, places}
pub use Rattle.crn_cert.specs.Valid.{IsValid}
pub use Rattle.crn_cert.specs.declared.answer.Answer.{Answer}
pub use Rattle.crn_cert.specs.declared.answer.Gap.TheVariants.{Wide}
pub use Rattle.crn_cert.specs.declared.answer.Verdict.TheVariants.{Unknown}
pub use Rattle.crn_conc.specs.Answers.{AnswersTable, IsTableAnswer}
pub use Rattle.crn_conc.specs.Inner.Answers.{IsNameOf, IsNamed, IsStopAnswer, end_answer}
pub use Rattle.crn_conc.specs.Inner.Columns.{AreMade, AreSettled, AreSettledBelow, AreSignsOf, AreSums, IsAskedOf, IsChosen, IsExtended, settled_below, signs_at}
pub use Rattle.crn_conc.specs.Inner.Rows.{AreWide, IsLast}
pub use Rattle.crn_conc.specs.declared.answer.Searched.{Searched}
pub use Rattle.crn_conc.specs.declared.answer.WideName.{WideName}
pub use Rattle.crn_conc.specs.declared.chosen.Chosen.{Chosen}
pub use Rattle.crn_farkas.specs.Decision.{IsSmallSolution}
pub use Rattle.crn_sign.proofs.CallerLemmas.{firm_kinds, row_kept}
pub use Rattle.crn_sign.specs.Options.{AskKinds, IsPut, kind_of_bits, minus_at, none, plus_at, sign_at, word_at, word_count}
pub use Rattle.crn_sign.specs.Search.{IsOutcome, IsSearchEnd, IsSearchStop, outcome_of}
pub use Rattle.crn_sign.specs.Settled.{SettlesOnly}
pub use Rattle.crn_sign.specs.declared.bits.Bits.{Bits}
pub use Rattle.crn_sign.specs.declared.end.SearchEnd.{SearchEnd}
pub use Rattle.crn_sign.specs.declared.end.SearchEnd.TheVariants.{Found, Infeasible, Refuted, Spent}
pub use Rattle.crn_sign.specs.declared.fault.SearchStop.{SearchStop}
pub use Rattle.crn_sign.specs.declared.fault.SearchStop.TheVariants.{NoMemory, WideA, WideB}
pub use Rattle.crn_sign.specs.declared.problem.Asked.{Asked}
pub use Rattle.crn_vec.proofs.CallerLemmas.{all_append, all_from, all_in, column_in_a, column_in_b, column_long, dot-zeros, entry-column, entry-minus, entry-zeros, eq_or, flat_map_push, held, if_ok, in_range, length-minus, length-rows, length-rows_after, length-zeros, longer_by, lt_or, map_more, networks_have_tables, products_none, row_chosen, row_in_a, row_in_b, row_open, rows_after, rows_count, some_species, tables_are_lawful, tables_feasible, take-zeros, vector_at, within_append, within_at, written, zeros}
pub use Rattle.crn_vec.specs.Concordance.{IsDiscordant, IsTable, column_kind, concordance, is_minus, is_plus, kind_of_sum, kinds_a_of, kinds_b_of, product, products, row_kinds, sign, some_sign}
pub use Rattle.crn_vec.specs.Deficiency.{vectors}
pub use Rattle.crn_vec.specs.Elementary.{NamesWide, width}
pub use Rattle.crn_vec.specs.Influence.{plain_table, strong_table}
pub use Rattle.crn_vec.specs.Kept.{KeptInts, KeptNums}
pub use Rattle.crn_vec.specs.Lists.{IsIn}
pub use Rattle.crn_vec.specs.Matrices.{mat_of}
pub use Rattle.crn_vec.specs.NetSystems.{reaction_system}
pub use Rattle.crn_vec.specs.Network.{IsNetwork, Net, minus, sides_of}
pub use Rattle.crn_vec.specs.Problems.{IsFeasible, all_zero, options_below}
pub use Rattle.crn_vec.specs.Systems.{HasKind, IsSolution, kind_at, one_if}
pub use Rattle.crn_vec.specs.Vectors.{AreWithin, Mat, column, dot, entry}
pub use Rattle.crn_vec.specs.Visits.{Passes, PassesBudget, begun, below, past, root}
pub use Rattle.crn_vec.specs.declared.limits.TheConstants.{MAX_AMOUNT, MAX_BUDGET, WIDE_SOLUTION}
pub use Rattle.crn_vec.specs.declared.signs.Kind.{Kind}
pub use Rattle.crn_vec.specs.declared.signs.Kind.TheVariants.{Free, Zero as ZeroKind}
pub use Rattle.crn_vec.specs.declared.signs.Sign.{Sign}
pub use Rattle.crn_vec.specs.declared.signs.Sign.TheVariants.{Minus, Plus, Zero}
pub use Rattle.std.proofs.Common.{Bool, List, [], add-one, ap, ap₂, arith, drop, false, get_or, inl, inr, length, length-take-le, map, max, of_z, refl, replicate, set, subst, suc, sym, take, to_z, true, zero, ℕ, ◌%◌, ◌&&◌, ◌*◌, ◌++◌, ◌+◌, ◌-◌, ◌/◌, ◌<◌, ◌==◌, ◌∙◌, ◌∷◌, ◌≡◌, ◌≢◌, ◌≤◌, ◌⊎◌}
pub use Rattle.std.proofs.lemmas.Bool.{eq-eqb, false≢true, ne_eqb}
pub use Rattle.std.proofs.lemmas.List.{append_assoc, get_or-append_right, get_or-replicate, get_or-set_other, get_or-set_same, get_or_append_left, get_or_past, length-append, length-map, length-replicate, length-set, take_all, take_more}
pub use Rattle.std.proofs.lemmas.List.FromFn.{get_or-range_with_len, length-range_with_len}
pub use Rattle.std.proofs.lemmas.Nat.Bits.{bit_at-zero, bit_at_or, bit_at_xor}
pub use Rattle.std.specs.Int.{bit_at, w128}
pub use Rattle.std.specs.List.{AllByRecursion, AllZip, flat_map, range_with_len}
pub use Rattle.std.specs.Option.{IfSome}
pub use Rattle.std.specs.Prelude.{None, Option, Some, bit_or, bit_xor, if◌then◌else◌, pos, slice_index_or, unsigned_abs, ℤ}
