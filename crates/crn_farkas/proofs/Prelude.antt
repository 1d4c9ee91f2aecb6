-- What this crate's proofs use of other crates and of its specs.
pub use Rattle.crn_farkas.specs.Decision.{IsDecision, IsSmallCut, IsSmallSolution, IsStop, IsTargetStop, WitnessesMakeSolutions, factor}
pub use Rattle.crn_farkas.specs.Inner.Sums.{AreZeros, HasPartSum, IsGoalStop, IsPart, IsPartSum, IsWitness}
pub use Rattle.crn_farkas.specs.Inner.Views.{AgreeBeyond, AreLevels, HasCrossed, IsFirstWrong, IsRight, IsRightBetween, IsRightEverywhere, IsSeen, IsSettled, IsSwapped, IsView, IsViewed, IsWrongHere, lead_at}
pub use Rattle.crn_farkas.specs.Solver.{AreCutSigns, AreNamedMultipliers, AreSignsOf, AreWitnessSigns, CutsBy, HasKeptCut, IsNamedCut, IsNear, IsNearStop, IsRefusedStop, IsRuledOut, IsUnsolvable}
pub use Rattle.crn_farkas.specs.declared.decision.Decision.{Decision}
pub use Rattle.crn_farkas.specs.declared.fault.Stop.{Stop}
pub use Rattle.crn_farkas.specs.declared.fault.Stop.TheVariants.{NoMemory, Wide}
pub use Rattle.crn_farkas.specs.declared.goal.Part.{Part}
pub use Rattle.crn_farkas.specs.declared.view.View.{View}
pub use Rattle.crn_farkas.specs.declared.view.View.TheVariants.{Column, Row}
pub use Rattle.crn_tab.proofs.CallerLemmas.{as_row, column_at, exchanged_list, isIn_or, one_column, one_row, proportional_by, sign_carried, sign_some, wide_shown}
pub use Rattle.crn_tab.specs.Tableau.{AreRight, AreWrongAt, IsColumnOfSign, IsNumbered, IsRefused, IsRowOfSign, KeptTableau, NamesRows, RulesBelow}
pub use Rattle.crn_vec.proofs.CallerLemmas.{Zero as AllZero, Quiet, any_default, assoc, cuts_exclude_solutions, dot-comm, dot-plus, dot-scale, dot-scale-right, dot-zero, dot_single, entry-plus, entry-scale, entry-zeros, eq_or, held, if_ok, kind_from, kind_takes, kind_weighs, kinds_at, length-plus, length-scale, length-zeros, look_at, lt_or, mul-neg, no_zero, one-mul, orthogonal, part, past_end, plus, positive_some, product_some, same_members, settled_dual, settled_row, sum_some, sum_within, take-scale, take_sum, take_zero, weigh_zero, weights_decide_cuts, within_from, within_take, zeros, zip_from}
pub use Rattle.crn_vec.specs.Elementary.{InDualSpace, InRowSpace, IsElementary, IsNamed, IsNamedColumn, IsNamedRow, IsWideMatrix, NamesWide, WideAt, width}
pub use Rattle.crn_vec.specs.Kept.{KeptInts}
pub use Rattle.crn_vec.specs.Lists.{IsIn}
pub use Rattle.crn_vec.specs.Systems.{HasKind, HasOneRowCut, HasSigned, HasWeight, IsCut, IsSolution, MayTake, MayWeigh, is_signed, kind_at, one_if, signed_count}
pub use Rattle.crn_vec.specs.Vectors.{AreOfLength, AreWithin, HasSign, Mat, column, dot, entry, scale}
pub use Rattle.crn_vec.specs.declared.limits.TheConstants.{MAX_SIGNED, WIDE_ENTRY, WIDE_SOLUTION}
pub use Rattle.crn_vec.specs.declared.signs.Kind.{Kind}
pub use Rattle.crn_vec.specs.declared.signs.Kind.TheVariants.{Free, Neg, NonNeg, Pos}
pub use Rattle.crn_vec.specs.declared.signs.Sign.{Sign}
pub use Rattle.crn_vec.specs.declared.signs.Sign.TheVariants.{Zero}
pub use Rattle.std.proofs.Common.{List, [], add-one, ap, ap₂, arith, drop, get_or, inl, inr, length, of_z, refl, replicate, rules, set, subst, suc, sym, take, zero, ℕ, ◌*◌, ◌++◌, ◌+◌, ◌-◌, ◌<◌, ◌↔◌, ◌∙◌, ◌∷◌, ◌≡◌, ◌≢◌, ◌≤◌, ◌⊎◌}
pub use Rattle.std.proofs.lemmas.Bool.{false≢true}
pub use Rattle.std.proofs.lemmas.Int.{ints, to_z-of_z}
pub use Rattle.std.proofs.lemmas.List.{ext_get_or, get_or-drop, get_or-replicate, get_or-set_other, length-replicate, length-set, length-take-le}
pub use Rattle.std.proofs.lemmas.Nat.Gcd.{dvd-zero}
pub use Rattle.std.specs.Int.{w128, ◌∣◌}
pub use Rattle.std.specs.List.{AllZip}
pub use Rattle.std.specs.Prelude.{Bool, Err, IfSome, IsTrue, Ok, Result, false, neg_ℤ, negsuc, pos, slice_index, slice_index_or, true, unsigned_abs, ℤ, ◌*ℤ◌, ◌+ℤ◌, ◌<ℤ◌, ◌≤ℤ◌}
pub use Rattle.std.specs.Result.{MatchResult}
