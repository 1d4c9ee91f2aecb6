-- What this crate's proofs use of other crates and of its specs.
pub use Rattle.crn_space.specs.ClassSums.{ClassDeficienciesSumToAtMost}
pub use Rattle.crn_space.specs.Dimension.{AreSpaceVectors, DeficiencyOneLeavesLine, DeficiencyZeroLeavesOnlyZero, IsSpaceDimension, SpaceDimensionIsDeficiency}
pub use Rattle.crn_vec.proofs.CallerLemmas.{Related, Solves, Zero, above_few, above_zero, all_from, all_in, apart_map, ascending_suc, assoc, at_in, below_suc, chosen-suc, class_back, class_link, class_then, comb, distrib-right, dot-comm, dot-zero, dots, entry-comb, eq_or, gain, gain_made, gain_same, in_at, in_left, in_map, in_range, in_right, inside_at, is_zero, leads_keeps, length-column, length-comb, length-minus, length-zeros, long_take, lt_or, map_in, mul-neg, mul-sub, no_zero, null, number_is_one, one_ne_zero, past_end, range_bounds, same_place, too_many, transposed, unit, vector_long, zero_from, zeros, zeros-dot}
pub use Rattle.crn_vec.specs.Confluence.{HasConfluenceLine, HasNoConfluence, InConfluenceSpace, IsConfluenceVector, IsNonzero}
pub use Rattle.crn_vec.specs.Deficiency.{IsClassDeficiency, IsComplex, IsDeficiency, IsDeficiencyZero, IsLabelled, class_members, class_reactions, vectors}
pub use Rattle.crn_vec.specs.Elementary.{AreProportional}
pub use Rattle.crn_vec.specs.Linkage.{IsLabelCount, IsLinked, SameClass}
pub use Rattle.crn_vec.specs.Lists.{AreDistinct, IsAbove, IsAscending, IsIn}
pub use Rattle.crn_vec.specs.Network.{IsNetwork, JoinsTwo, Net, minus, reaction_vector}
pub use Rattle.crn_vec.specs.Rank.{IsChoice, IsIndependent, IsRank, IsZero, chosen, combination_at}
pub use Rattle.crn_vec.specs.Vectors.{AreOfLength, column, dot, entry}
pub use Rattle.crn_vec.specs.Walks.{AreApart, AreRepresentatives, IsNumberOf}
pub use Rattle.std.proofs.Common.{Bool, List, [], ap, ap₂, arith, drop, false, get_or, inl, inr, length, length-append, map, ne_eqb, refl, subst, suc, sym, take, true, zero, ℕ, ◌++◌, ◌+◌, ◌<◌, ◌==◌, ◌∙◌, ◌∷◌, ◌≡◌, ◌≢◌, ◌≤◌, ◌⊎◌}
pub use Rattle.std.proofs.lemmas.Bool.{cases_Bool, cases_eq, eq-eqb}
pub use Rattle.std.proofs.lemmas.Int.{ints}
pub use Rattle.std.proofs.lemmas.List.{ext_get_or, get_or-map, length-drop, length-map, length-take}
pub use Rattle.std.proofs.lemmas.List.FromFn.{get_or-map-range_with_len, length-range_with_len}
pub use Rattle.std.proofs.lemmas.List.Sums.{sum_by-cons}
pub use Rattle.std.specs.List.{AllByRecursion, range_with_len}
pub use Rattle.std.specs.Prelude.{filter, min, neg_ℤ, pos, sum, ℤ, ◌*ℤ◌, ◌+ℤ◌, ◌-ℤ◌}
