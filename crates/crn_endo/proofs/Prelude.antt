-- What this crate's proofs use of other crates and of its specs.
pub use Rattle.crn_cert.proofs.CallerLemmas.{count_places}
pub use Rattle.crn_cert.specs.Preorder.{AreNodesOf, listed, preorder}
pub use Rattle.crn_cert.specs.Ranges.{IsFrom, IsNarrow}
pub use Rattle.crn_cert.specs.Trees.{AreNarrow, Both, IsValid, Level, Plan, RulesA, RulesB, Three, node_count, places}
pub use Rattle.crn_cert.specs.declared.tree_node.TreeNode.{TreeNode}
pub use Rattle.crn_endo.specs.Answer.{AreRefuted, AreRefutedWithin, FindWithin, IsEndoAnswer, PassTogether, PassingVisitsAreSpent, all_nodes}
pub use Rattle.crn_endo.specs.Inner.Alone.{bare, slopes_alone}
pub use Rattle.crn_endo.specs.Inner.Asked.{AreRaised, AskFirmly, IsAskable, ShowsWeak, firm_kind}
pub use Rattle.crn_endo.specs.Inner.Chains.{AreChains, IsNext}
pub use Rattle.crn_endo.specs.Inner.Decided.{AreDone, EndsAnswer, IsDecidedAt}
pub use Rattle.crn_endo.specs.declared.answer.Decided.TheVariants.{Ended, Refuted, Refuted as RefutedBy}
pub use Rattle.crn_endo_check.proofs.CallerLemmas.{free_solution, slope_basis, slope_width, slopes_are_lawful, slopes_feasible, solution_long, trees_formed}
pub use Rattle.crn_endo_check.specs.Endo.{AreValidTrees, NamesReaction}
pub use Rattle.crn_endo_check.specs.Endotactic.{IsAgainst, reaction_at}
pub use Rattle.crn_endo_check.specs.Kept.{KeptSlopes}
pub use Rattle.crn_endo_check.specs.SlopeLaws.{slope_by}
pub use Rattle.crn_endo_check.specs.Slopes.{AtLeastZeroOrFree, IsSmallEnough, NeverAtLeastZero, at_least_zero_if, fall_kind, is_reactant, later, option_of, others, reactants, rise_kind, slope_kinds, slope_matrix, slopes}
pub use Rattle.crn_endo_check.specs.declared.endo.Endo.{Endo}
pub use Rattle.crn_endo_check.specs.declared.endo.Endo.TheVariants.{Large, No, Spent, Wide, Yes}
pub use Rattle.crn_farkas.specs.Decision.{IsSmallSolution}
pub use Rattle.crn_sign.proofs.CallerLemmas.{put_here, put_other, row_kept}
pub use Rattle.crn_sign.specs.Options.{AskKindsBy, IsPut, asked_kind, bit_of, kind_in, kind_of_bits, none, weakened, word_at, word_count, word_of}
pub use Rattle.crn_sign.specs.Search.{IsSearchEnd, IsSearchStop}
pub use Rattle.crn_sign.specs.declared.bits.Bits.{Bits}
pub use Rattle.crn_sign.specs.declared.end.SearchEnd.TheVariants.{Found, Spent as SearchSpent}
pub use Rattle.crn_sign.specs.declared.problem.Asked.{Asked}
pub use Rattle.crn_vec.proofs.CallerLemmas.{above_ascending, above_in, all_at, all_push, any_default, are_one, at_in, below_or, cuts_exclude_solutions, eq_or, filter_ascending, filter_from, held, longer_by, lt_or, map_more, range_ascending, range_bounds, row_chosen, written}
pub use Rattle.crn_vec.specs.Concordance.{is_minus, is_plus, kind_of_sign, row_kinds}
pub use Rattle.crn_vec.specs.Elementary.{IsPrimitive, IsWide, NamesWide, width}
pub use Rattle.crn_vec.specs.Kept.{KeptInts}
pub use Rattle.crn_vec.specs.Lists.{IsAscending, IsIn}
pub use Rattle.crn_vec.specs.Network.{IsNetwork, Net}
pub use Rattle.crn_vec.specs.Problems.{IsFeasible, IsLawful}
pub use Rattle.crn_vec.specs.Systems.{kind_at}
pub use Rattle.crn_vec.specs.Vectors.{Mat, entry}
pub use Rattle.crn_vec.specs.Visits.{IsVisitList, Passes, PassesBudget, Visits, begun, below, ended, fallen, opened, over, past, root}
pub use Rattle.crn_vec.specs.declared.limits.TheConstants.{MAX_BUDGET, WIDE_ENTRY, WIDE_SOLUTION}
pub use Rattle.crn_vec.specs.declared.signs.Kind.{Kind}
pub use Rattle.crn_vec.specs.declared.signs.Kind.TheVariants.{Free, Neg, NonNeg, Pos}
pub use Rattle.crn_vec.specs.declared.signs.Sign.{Sign}
pub use Rattle.crn_vec.specs.declared.signs.Sign.TheVariants.{Minus, Plus, Zero}
pub use Rattle.std.proofs.Common.{Bool, List, [], add-one, ap, ap₂, arith, cond, drop, false, filter, get_or, inl, inr, length, lit<, lit≤, map, of_z, refl, replicate, set, subst, suc, sym, take, to_z, true, zero, ℕ, ◌%◌, ◌&&◌, ◌++◌, ◌+◌, ◌-◌, ◌/◌, ◌<◌, ◌∙◌, ◌∷◌, ◌≡◌, ◌≢◌, ◌≤◌, ◌⊎◌}
pub use Rattle.std.proofs.lemmas.Bool.{eq-eqb, false≢true, ne_eqb}
pub use Rattle.std.proofs.lemmas.Int.{fits_signed_from_abs, ints}
pub use Rattle.std.proofs.lemmas.List.{get_or-append_right, get_or-replicate, get_or-set_other, get_or-set_same, get_or_append_left, length-append, length-map, length-replicate, length-set, map-append}
pub use Rattle.std.proofs.lemmas.List.FromFn.{get_or-map-range_with_len, length-map-range_with_len}
pub use Rattle.std.proofs.lemmas.List.Sums.{sum_by_push}
pub use Rattle.std.proofs.lemmas.Nat.Bits.{bit_at-zero}
pub use Rattle.std.proofs.lemmas.Nat.Gcd.{dvd-zero, dvd_refl}
pub use Rattle.std.specs.Int.{bit_at, w128, ◌∣◌}
pub use Rattle.std.specs.List.{AllByRecursion, range_with_len}
pub use Rattle.std.specs.Prelude.{FitsSigned, neg_ℤ, negsuc, not, pos, sum, unsigned_abs, ℤ, ◌-ℤ◌, ◌==◌}
