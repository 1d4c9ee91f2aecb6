-- What this crate's proofs use of other crates and of its specs.
pub use Rattle.crn_frac.proofs.CallerLemmas.{abs_minus, common, exact, lcm_is, minus, reduced, smaller}
pub use Rattle.crn_frac.specs.Multiple.{IsLcm}
pub use Rattle.crn_tab.specs.Inner.Columns.{HasWideScale, IsScale, IsScaledBy, MakesWhole, column_entry, column_of}
pub use Rattle.crn_tab.specs.Inner.Rows.{AreBelow, AreFilled, ArePlaces, AreRows, AreRowsBelow, HasWideRow, IsCombined, IsFit, IsKeptRow, IsLead, IsNewRow, IsPrimitivePart, IsRowChanged, IsRowDone, IsRowMade, put}
pub use Rattle.crn_tab.specs.Inner.Scans.{Follows}
pub use Rattle.crn_tab.specs.Inner.Start.{IsIdentity, start_row, start_rows}
pub use Rattle.crn_tab.specs.Slots.{ArePlaced, IsContent, IsRowAt, IsTableau, IsWhole, basis_from, basis_of, row_at, slot_entry, spread}
pub use Rattle.crn_tab.specs.Tableau.{AreEntered, AreEnteredBelow, ArePlacesOfRows, AreRight, AreSmall, AreWrongAt, EnteredRowsGiveTheRank, IsColumnOfSign, IsNumbered, IsRowOfSign, IsZeroBefore, KeptTableau, NamesRows, RulesBelow, choose, first_entry}
pub use Rattle.crn_tab.specs.declared.inverse.Inverse.{Inverse}
pub use Rattle.crn_vec.proofs.CallerLemmas.{Solves, above_ascending, above_in, above_lower, abs_some, any_default, ascending_at, ascending_push, assoc, at_in, base_gives_rank, below_or, chosen_at, column-chosen, distrib, distrib-right, dot-comm, dot_single, dot_two, dot_zero, dots, drop_seam, entry-after, entry-column, entry-dots, entry-neg, entry-zeros, eq_or, in_at, in_left, in_push, in_right, inside_or, left-comm, length-chosen, length-column, length-dots, length-neg, length-zeros, look_at, lt_or, map_same, minus_one, mul-neg, mul-sub, neg-mul, no_zero, null, one-mul, orthogonal, past_end, pos_pos, positive_some, row_count, same_members, take_zero, weigh_zero, within_at, written, zero_from, zero_times, zeros, zeros-dot}
pub use Rattle.crn_vec.specs.Elementary.{AreProportional, Exchanged, InDualSpace, InRowSpace, IsBasis, IsElementary, IsNamed, IsNamedColumn, IsNamedRow, IsPrimitive, IsWide, IsWideMatrix, WideAt, width}
pub use Rattle.crn_vec.specs.Kept.{KeptNums}
pub use Rattle.crn_vec.specs.Lists.{IsAbove, IsAscending, IsIn}
pub use Rattle.crn_vec.specs.Rank.{DependsOn, IsIndependent, chosen}
pub use Rattle.crn_vec.specs.Systems.{MayTake, MayWeigh, is_signed, kind_at}
pub use Rattle.crn_vec.specs.Vectors.{AreOfLength, AreWithin, HasSign, Mat, column, dot, entry}
pub use Rattle.crn_vec.specs.declared.limits.TheConstants.{MAX_AMOUNT, MAX_COORDINATES, WIDE_ENTRY}
pub use Rattle.crn_vec.specs.declared.signs.Kind.{Kind}
pub use Rattle.crn_vec.specs.declared.signs.Kind.TheVariants.{Pos}
pub use Rattle.crn_vec.specs.declared.signs.Sign.{Sign}
pub use Rattle.crn_vec.specs.declared.signs.Sign.TheVariants.{Minus, Plus, Zero}
pub use Rattle.std.proofs.Common.{Bool, Global, List, Vec, [], add-one, ap, append_assoc, arith, below_more, drop, false, get_or, inl, inr, length, lit<, map, nat_eq, nat_lt, of_z, refl, replicate, rules, set, subst, suc, sym, take, to_z, true, vec_capacity, vec_len, zero, ℕ, ◌%◌, ◌*◌, ◌++◌, ◌+◌, ◌-◌, ◌/◌, ◌<◌, ◌^◌, ◌∙◌, ◌∷◌, ◌≡◌, ◌≢◌, ◌≤◌, ◌⊎◌}
pub use Rattle.std.proofs.Math.IntN.{negsuc-*ℤ-pos}
pub use Rattle.std.proofs.Math.ListN.{length-set as length-put, length-set}
pub use Rattle.std.proofs.Math.Nat.{div-add-mod, div-lt_iff_lt-mul, div-mul_cancel, dvd-add, dvd-mul_left, dvd-mul_left_of_dvd, dvd-mul_right, dvd-sub, dvd_of_mul-dvd-mul_right, eq-one_of_dvd-one, eq_of_mul-eq-mul_left, mul-dvd-mul_right, mul-le-mul, mul-le-mul_right, mul_assoc, mul_comm, one-dvd, one-le-mul, pos_of_dvd_of_pos, suc-mul}
pub use Rattle.std.proofs.Math.Seq.{take-append_seam}
pub use Rattle.std.proofs.lemmas.Bool.{false≢true}
pub use Rattle.std.proofs.lemmas.Bool.Decides.{nat_tests}
pub use Rattle.std.proofs.lemmas.Grind.{common_steps}
pub use Rattle.std.proofs.lemmas.Int.{fits_signed_from_abs, fits_signed_mul, int_wrap_fits, ints, quot_fits, quot_is, to_z-of_z, unsigned_abs-mul, wrapping_mul_is}
pub use Rattle.std.proofs.lemmas.List.{append-nil, ext_get_or, get_or-append-add, get_or-drop, get_or-replicate, get_or-set_other, get_or-set_same, get_or-take, get_or_append_left, length-append, length-drop, length-replicate, length-take, length-take-le, map-append}
pub use Rattle.std.proofs.lemmas.List.FromFn.{get_or-range_with_len, length-range_with_len}
pub use Rattle.std.proofs.lemmas.Nat.Gcd.{IsGcd-from_mod, IsGcd-from_zero, IsGcd-swap, dvd-zero, dvd_antisymm, dvd_refl, dvd_trans, le_of_dvd}
pub use Rattle.std.specs.Int.{IsGcd, w128, w32, w64, ◌∣◌}
pub use Rattle.std.specs.List.{SwappedAt, range_with_len}
pub use Rattle.std.specs.Prelude.{FitsSigned, IsTrue, int_div, int_lt, neg_ℤ, negsuc, pos, slice_index, slice_index_or, slice_set, unsigned_abs, ℤ, ◌*ℤ◌, ◌+ℤ◌, ◌-ℤ◌, ◌↔◌, ◌≤ℤ◌}
