-- What this crate's proofs use of other crates and of its specs.
pub use Rattle.crn_cert.proofs.CallerLemmas.{narrow_all, same_tree}
pub use Rattle.crn_cert.specs.Preorder.{Listed, ListedCutA, ListedCutB, ListedSplitThree, ListedSplitTwo, listed, preorder}
pub use Rattle.crn_cert.specs.Trees.{Both, Plan, RulesA, RulesB, Three, places}
pub use Rattle.crn_cert.specs.declared.tree_node.TreeNode.{TreeNode}
pub use Rattle.crn_cert.specs.declared.tree_node.TreeNode.TheVariants.{Flat}
pub use Rattle.crn_farkas.proofs.CallerLemmas.{drop-scale, dual_scaled, row_plus, row_scaled, scale_step, scaled_small}
pub use Rattle.crn_farkas.specs.Decision.{IsSmallCut, factor}
pub use Rattle.crn_farkas.specs.Solver.{AreSignsOf}
pub use Rattle.crn_sign.specs.Inner.Bits.{IsMarked, mark_at, mark_in, mark_of, none, word_at, word_count}
pub use Rattle.crn_sign.specs.Inner.Kinds.{AreKept}
pub use Rattle.crn_sign.specs.Inner.Marks.{AreMadeBy, AreMet, AreOpposite, AreRowMarks, AreSuited, HasMark, Suits, kind_of_mark, kind_there, laid, negative, sign_mark, sign_there, united}
unfoldable pub use Rattle.crn_sign.specs.Inner.Marks.{kinds_of}
pub use Rattle.crn_sign.specs.Inner.Parts.{IsFinder, IsRuling}
pub use Rattle.crn_sign.specs.Inner.Past.{AllWeigh, AreMarksOf, Counts, IsPast, SomeCounts, Weighs, mark_of_multiple}
pub use Rattle.crn_sign.specs.Inner.PastCuts.{ArePastCuts}
pub use Rattle.crn_sign.specs.Inner.Places.{HasRoom, IsAround, IsAsked, IsFor, IsHere, IsPlace, IsSettledAt, IsSettling}
pub use Rattle.crn_sign.specs.Inner.Ready.{AreAround, AreAsked, AreMarked, AreRoomsBelow, HasRooms, IsLevel}
pub use Rattle.crn_sign.specs.Inner.RowSigns.{AreRowSigns}
pub use Rattle.crn_sign.specs.Inner.Walk.{Appends, EndsAt, EndsBelow, EndsWith, EndsWithout, HasTree, IsEndOf, IsFoundAt, IsLeafAt, IsLevelUnless, IsSolvedUnless, MayListLeaf, RunsOut, split_node}
pub use Rattle.crn_sign.specs.Options.{AskKinds, AskKindsBy, IsPut, kind_by as asked_by, asked_kind, bit_of, kind_by_words, kind_in, kind_of_bits, minus_at, plus_at, weakened, word_of}
pub use Rattle.crn_sign.specs.Search.{IsFeasibleBy, IsOutcome, IsSearchEnd, IsSearchStop, IsTreeAt}
pub use Rattle.crn_sign.specs.Settled.{SettlesOnly}
pub use Rattle.crn_sign.specs.declared.bits.Bits.{Bits}
pub use Rattle.crn_sign.specs.declared.end.SearchEnd.{SearchEnd}
pub use Rattle.crn_sign.specs.declared.end.SearchEnd.TheVariants.{Found as FoundEnd, Refuted as RefutedEnd, Spent as SpentEnd}
pub use Rattle.crn_sign.specs.declared.marks.Mark.{Mark}
pub use Rattle.crn_sign.specs.declared.marks.Mark.TheVariants.{Any, Minus, Plus, Zero}
pub use Rattle.crn_sign.specs.declared.place.Place.{Place}
pub use Rattle.crn_sign.specs.declared.problem.Asked.{Asked}
pub use Rattle.crn_sign.specs.declared.walk.Ending.{Ending}
pub use Rattle.crn_sign.specs.declared.walk.Ending.TheVariants.{Found, Refuted, Spent}
pub use Rattle.crn_sign.specs.declared.walk.Level.{Level}
pub use Rattle.crn_sign.specs.declared.walk.Listing.{Listing}
pub use Rattle.crn_vec.proofs.CallerLemmas.{any_default, below_two, cuts_exclude_solutions, dot-zeros, entry-plus, entry-scale, entry-zeros, eq_or, length-scale, length-zeros, lt_or, passes_at, passes_first, passes_then, plus, positive_some, range_more, take-zeros, visits_ended, visits_then, weigh_zero, written, zeros, zip_at, zip_from, zip_long}
pub use Rattle.crn_vec.specs.Concordance.{row_kinds}
pub use Rattle.crn_vec.specs.Elementary.{InRowSpace, width}
pub use Rattle.crn_vec.specs.Kept.{KeptInts}
pub use Rattle.crn_vec.specs.Problems.{IsFeasible, IsFull, Signed, SolvesA, SolvesB, all_zero, children, options_below}
pub use Rattle.crn_vec.specs.Systems.{HasKind, IsSolution, MayWeigh, is_signed, kind_at, one_if}
pub use Rattle.crn_vec.specs.Vectors.{HasSign, Mat, dot, entry, scale}
pub use Rattle.crn_vec.specs.Visits.{Passes, Visits, begun, below, ended, fallen, opened, over}
pub use Rattle.crn_vec.specs.declared.limits.TheConstants.{WIDE_ENTRY}
pub use Rattle.crn_vec.specs.declared.signs.Kind.{Kind}
pub use Rattle.crn_vec.specs.declared.signs.Kind.TheVariants.{Free, Neg, NonNeg, Pos, Zero as ZeroKind}
pub use Rattle.crn_vec.specs.declared.signs.Sign.{Sign}
pub use Rattle.crn_vec.specs.declared.signs.Sign.TheVariants.{Minus as MinusSign, Plus as PlusSign, Zero as ZeroSign}
pub use Rattle.std.proofs.Common.{Bool, List, [], add-one, ap, ap₂, arith, bit_and, drop, drop-cons, false, get_or, inl, inr, length, map, max, min, refl, replicate, rules, set, subst, suc, sym, take, true, w64, zero, ℕ, ℤ, ◌%◌, ◌*◌, ◌++◌, ◌+◌, ◌-◌, ◌/◌, ◌<◌, ◌∙◌, ◌∷◌, ◌≡◌, ◌≢◌, ◌≤◌}
pub use Rattle.std.proofs.lemmas.Bool.{false≢true}
pub use Rattle.std.proofs.lemmas.Int.{ints, to_z-of_z}
pub use Rattle.std.proofs.lemmas.List.{append-nil, append_assoc, drop_all, ext_get_or, get_or-map, get_or-set_other, get_or-set_same, get_or_past, length-append, length-map, length-replicate, length-set, map-append, take-append-le, take_all}
pub use Rattle.std.proofs.lemmas.List.FromFn.{fill_by_all, get_or-range_with_len, length-range_with_len}
pub use Rattle.std.proofs.lemmas.Nat.{and_le_l, and_le_r}
pub use Rattle.std.proofs.lemmas.Nat.Bits.{bit_at-lt, bit_at-trailing_zeros, bit_at-zero, bit_at_and, bit_at_clear_other, bit_at_clear_same, bit_at_or, bit_at_set_other, bit_at_set_same, bit_at_xor}
pub use Rattle.std.proofs.lemmas.Result.{err_from_is_err_and}
pub use Rattle.std.specs.Int.{bit_at, trailing_zeros, w128}
pub use Rattle.std.specs.List.{AllByRecursion, AllZip, range_with_len}
pub use Rattle.std.specs.Prelude.{MatchResult, negsuc, pos, unsigned_abs, ◌*ℤ◌, ◌+ℤ◌, ◌≤ℤ◌}
