-- What this crate's proofs use of other crates and of its specs.
pub use Rattle.crn_net.specs.Grows.{AddGives, Grown, GrownFrom, Grows, IsSelf, both_with_zeros, complexes_with, names_with, no_net, reactions_with, with_zeros}
pub use Rattle.crn_net.specs.Inner.BucketSums.{AreBucketSums, in_bucket, joined, mark, mark_after, word}
pub use Rattle.crn_net.specs.Inner.Marks.{AreMarked, IsMarked, slot_of}
pub use Rattle.crn_net.specs.Inner.Steps.{AreNoted, BuildGives, Built, IsOver, IsRowFor, LeftIsOver, NotesBoth, NotesName, NotesReaction, NotesRow, NotesSide, NotesSides, Puts, PutsBoth, RightIsOver, SaysSame, TellsApart, difference_of}
pub use Rattle.crn_net.specs.Inner.Sums.{AreByName, name_in, no_share, share_of, sum_in}
pub use Rattle.crn_net.specs.Terms.{IsSide, IsTerm, name_at, side_of, statement_of}
pub use Rattle.crn_net.specs.Views.{AreRows, IsRow, net_of, vectors_of}
pub use Rattle.crn_net.specs.declared.fault.NetFault.{NetFault}
pub use Rattle.crn_net.specs.declared.fault.NetFault.TheVariants.{NoMemory, NoReaction, SelfReaction, TooManyComplexes, TooManyReactions, TooManySpecies}
pub use Rattle.crn_net.specs.declared.side_sums.Share.{Share}
pub use Rattle.crn_net.specs.declared.term.Term.{Term}
pub use Rattle.crn_vec.proofs.CallerLemmas.{IsNumberedInOrder, abs_back, all_append, all_at, all_from, all_in, all_map, all_push, amounts_same, any_false, any_is, any_true, apart_of, appears_in_order, append_same, at_in, distinct_of_map, distinct_push, ends_below, entry_of_zeros, firsts_all, firsts_distinct, firsts_firsts, firsts_from, firsts_has, firsts_known, firsts_length, firsts_map, firsts_new, firsts_prefix, flat_map_push, has_name, in_at, in_cases, in_flat_map, in_left, in_map, in_order_appears, in_push, in_right, map_distinct, map_in, map_same, map_twice, name_decides, none_said, pair, positive_some, reaction_decides, row_decides, same_place, same_test, sides_decide}
pub use Rattle.crn_vec.specs.Lists.{AreDistinct, IsIn, firsts}
pub use Rattle.crn_vec.specs.Network.{Holds, IsAmount, IsHeldBefore, IsName, IsNetwork, IsPartialNetwork, IsVector, JoinsTwo, Net, Statement, amount_at, amount_in, amounts_in, ends, minus, names_in, reaction_vector, said_by, sides_eq, sides_of}
pub use Rattle.crn_vec.specs.Vectors.{AreWithin}
pub use Rattle.crn_vec.specs.declared.limits.TheConstants.{MAX_AMOUNT, MAX_COMPLEXES, MAX_REACTIONS, MAX_SPECIES, MAX_TERMS}
pub use Rattle.indexmap.specs.IndexSet.{insert_key}
pub use Rattle.std.proofs.Common.{Bool, Err, FitsSigned, List, None, Ok, Result, Some, [], add-one, ap, append_assoc, ap₂, arith, cond, drop, false, get_or, inl, inr, length, map, nat_lt, not, of_z, refl, replicate, rules, set, slice_get, subst, suc, sym, take, to_z, true, w32, zero, ℕ, ◌%◌, ◌&&◌, ◌*◌, ◌++◌, ◌+◌, ◌-◌, ◌<◌, ◌==◌, ◌^◌, ◌∙◌, ◌∷◌, ◌≡◌, ◌≢◌, ◌≤◌, ◌⊎◌}
pub use Rattle.std.proofs.Math.Seq.{get_or-append_seam, take-append_seam}
pub use Rattle.std.proofs.lemmas.Bool.{cases_Bool, cases_eq, cases_lt, eq-eqb}
pub use Rattle.std.proofs.lemmas.Bool.Decides.{Decides-ltb}
pub use Rattle.std.proofs.lemmas.Cmp.{nat_list_cmp_total}
pub use Rattle.std.proofs.lemmas.Fn.{always_returns_same}
pub use Rattle.std.proofs.lemmas.Int.{fits_signed_from_abs, ints, to_z-of_z}
pub use Rattle.std.proofs.lemmas.List.{append-nil, ext_get_or, get_or-append_right, get_or-map, get_or-set_other, get_or-set_same, get_or-take, get_or_append_left, get_or_default, get_or_push, length-append, length-drop, length-map, length-replicate, length-set, length-take, length-take-le, length_push, map-append, map-set, map_more, map_push, take-append-drop, take-append-le, take_all, take_more, take_more_set}
pub use Rattle.std.proofs.lemmas.List.Quantifiers.{position-Some}
pub use Rattle.std.proofs.lemmas.List.Sorted.{ranks_by, sorted_far, sum_by-IsPermutation}
pub use Rattle.std.proofs.lemmas.List.Sums.{fold-append, fold_more, position_or_len_is, sum_by-cons, sum_by-le-sum_by, sum_by-take-le, sum_by_more}
pub use Rattle.std.proofs.lemmas.Map.Text.{is_eq-slice_cmp}
pub use Rattle.std.proofs.lemmas.Option.{get_or_from_slice_get}
pub use Rattle.std.proofs.lemmas.Result.{err_from_is_err_and}
pub use Rattle.std.proofs.lemmas.Slice.Eq.{bytes_eq-Decides}
pub use Rattle.std.specs.Bool.{Decides}
pub use Rattle.std.specs.Cmp.Lexicographic.{pointwise, slice_cmp}
pub use Rattle.std.specs.Cmp.Rules.{signed_items}
pub use Rattle.std.specs.Int.{w128}
pub use Rattle.std.specs.List.{AllByRecursion, flat_map, fold, position, position_or_len, sum_by}
pub use Rattle.std.specs.List.Sorted.{IsPermutation}
pub use Rattle.std.specs.Ordering.{int_eq, is_eq, is_lt, nat_cmp, ordering_reverse}
pub use Rattle.std.specs.Prelude.{nat_abs, nat_eq, negsuc, pos, ℤ, ◌+ℤ◌, ◌-ℤ◌, ◌≤ℤ◌}
pub use Rattle.std.specs.Result.{OnErr, is_err}
pub use Rattle.std.specs.Str.{bytes_eq}
pub use Rattle.std.specs.declared.cmp.Ordering.{Ordering}
pub use Rattle.std.specs.declared.cmp.Ordering.TheVariants.{Equal, Greater, Less}
