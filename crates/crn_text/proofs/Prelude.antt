-- What this crate's proofs use of other crates and of its specs.
pub use Rattle.crn_io.proofs.CallerLemmas.{Wrote-all, Wrote-prefix, Wrote-then, WroteAll-step, WroteAll-then, WrotePrefix-more, WrotePrefix-step, WrotePrefix-then, flat_map_step, flat_map_whole, joined_push}
pub use Rattle.crn_io.specs.Joined.{joined, with_separator}
pub use Rattle.crn_io.specs.Write.{WroteAll}
pub use Rattle.crn_net.proofs.CallerLemmas.{Grown-more, Grown-names, Grown-names_with, Grown-network, Grown-none, Grown-reactions, Grown-reactions_with, IsSaid, may_grow, said_with_zeros, says_self, self_says, with_zeros_test}
pub use Rattle.crn_net.specs.Grows.{AddGives, FinishGives, Grown, GrownFrom, Grows, IsSelf, both_with_zeros, complexes_with, names_with, no_net, reactions_with, said_with, with_zeros}
pub use Rattle.crn_net.specs.Terms.{IsSide, IsTerm, name_at, side_of, statement_of}
pub use Rattle.crn_net.specs.declared.fault.NetFault.{NetFault}
pub use Rattle.crn_net.specs.declared.term.Term.{Term}
pub use Rattle.crn_text.specs.Canonical.{canonical, complex_text, or_zero, reaction_line, term, term_if_some, terms}
unfoldable pub use Rattle.crn_text.specs.Canonical.{side}
pub use Rattle.crn_text.specs.Codes.{net_code}
pub use Rattle.crn_text.specs.Faults.{both_of, complexes_of, has_empty_place, has_large, has_long_name, has_zero, is_empty, is_plain, is_self, line_fault, names_of, or_else, reactions_of, sides_fault, statements_fault, tokens_fault}
unfoldable pub use Rattle.crn_text.specs.Faults.{own_fault, statement_fault}
pub use Rattle.crn_text.specs.Inner.Flaws.{first_flaw, flaw_code, place_flaw, side_flaw, sides_flaw, term_flaw}
pub use Rattle.crn_text.specs.Inner.Found.{AreFound, Follows, IsPiece}
pub use Rattle.crn_text.specs.Inner.Held.{IsTrimmed, moved}
pub use Rattle.crn_text.specs.Inner.Known.{AreKnown, AreSound, line_at}
pub use Rattle.crn_text.specs.Inner.Pieces.{Begins, BeginsWith, FindsName, FindsPlace, IsFirstCode, IsSpelled, LineGives, NamesPlace, NamesTerm, Numbered, OccursIn, PartsAt, ReadsPlace, ReadsSide, ReadsTerm, ReadsTerms, Runs, SplitsArrow, SplitsAt, SplitsSide, StatementGives, StatementsGive, TakesToken, TokensGive, after_arrow, after_split, count_of, first_byte, is_unmarked, is_within, token_of}
pub use Rattle.crn_text.specs.Inner.Said.{AreIn, AreSaid, HasSaid, says}
pub use Rattle.crn_text.specs.Sides.{IsStep, all_statements, arrows, by_arrow, by_arrows, is_arrow, is_arrow_kind, is_name, is_name_kind, is_number, is_number_kind, is_plus, is_plus_kind, is_side, is_stray, is_stray_kind, is_term, is_zero, line_statements, places, sides, statements_of, term_of, terms_of}
pub use Rattle.crn_text.specs.SoundLines.{IsNoStray, IsPlain, IsSoundLine, IsSoundSide, IsSoundStatement, IsSoundTerm}
pub use Rattle.crn_text.specs.Spells.{AreFaultless, Fault, IsFirstFault, IsWithoutReaction, Spells, fault_on}
pub use Rattle.crn_text.specs.Tokens.{BeginsNone, BeginsNot, IsSplitInto, IsToken, TextsAreSplitInOneWay, Token, before_comment, is_blank, is_digit, lines, token, tokens}
unfoldable pub use Rattle.crn_text.specs.Tokens.{first_token, tokens_after}
pub use Rattle.crn_text.specs.declared.bytes.TheConstants.{KINDS}
pub use Rattle.crn_text.specs.declared.canonical.Piece.{Piece}
pub use Rattle.crn_text.specs.declared.fault.TextCode.{TextCode}
pub use Rattle.crn_text.specs.declared.fault.TextCode.TheVariants.{BadName, CoefficientTooLarge, EmptySide, NameTooLong, NoArrow, NoMemory, NoReaction, NotAscii, StrayMark, TextTooLong, ZeroCoefficient}
pub use Rattle.crn_text.specs.declared.first_fault.Flaw.{Flaw}
pub use Rattle.crn_text.specs.declared.first_fault.Flaw.TheVariants.{LongName, NoTerm, NoToken, Other, ZeroNumber}
pub use Rattle.crn_text.specs.declared.known.Place.{Place}
pub use Rattle.crn_text.specs.declared.said.Step.{Step}
pub use Rattle.crn_text.specs.declared.side.TheConstants.{LARGE}
pub use Rattle.crn_text.specs.declared.side_text.TheConstants.{TERM}
pub use Rattle.crn_text.specs.declared.token.Token.{Token as ReadToken}
pub use Rattle.crn_text.specs.declared.token.TokenKind.{TokenKind}
pub use Rattle.crn_text.specs.declared.token.TokenKind.TheVariants.{Arrow, Back, BothWays, Name, Number, Plus, Stray}
pub use Rattle.crn_vec.proofs.CallerLemmas.{IsNumberedInOrder, all_append, all_at, all_from, all_given, all_in, all_push, all_set, amounts_same, appears_in_order, append_same, at_in, ends_below, firsts_all, firsts_distinct, firsts_firsts, firsts_has, firsts_known, firsts_length, firsts_map, firsts_prefix, flat_map_push, has_name, in_at, in_flat_map, in_left, in_map, in_right, map_distinct, map_in, map_same, map_twice, none_said, none_some, of_flat_map, option_or, pair, row_decides, same_place, same_test, sides_decide}
pub use Rattle.crn_vec.specs.Lists.{AreDistinct, IsIn, firsts}
pub use Rattle.crn_vec.specs.Network.{Holds, IsAmount, IsHeldBefore, IsName, IsNetwork, IsPartialNetwork, IsVector, JoinsTwo, Net, Statement, amount_in, amounts_in, begins_name, ends, is_letter, is_name_byte, names_in, said_by, sides_eq, sides_of}
pub use Rattle.crn_vec.specs.declared.limits.TheConstants.{MAX_AMOUNT, MAX_COMPLEXES, MAX_NAME, MAX_REACTIONS, MAX_SPECIES, MAX_TERMS, MAX_TEXT}
pub use Rattle.std.proofs.Common.{Bool, Bor, Err, List, None, Ok, Option, Result, Some, [], add-one, ap, append_assoc, ap₂, arith, below_more, cond, drop, eqb, false, get_or, inl, inr, leb, length, map, of_z, refl, replicate, rules, set, subst, suc, sym, take, take_all, to_z, true, w8, zero, ℕ, ◌%◌, ◌*◌, ◌++◌, ◌+◌, ◌-◌, ◌/◌, ◌<◌, ◌==◌, ◌^◌, ◌∙◌, ◌∷◌, ◌≡◌, ◌≤◌}
pub use Rattle.std.proofs.Math.Bool.{or-false}
pub use Rattle.std.proofs.Math.Seq.{drop-append_seam, get_or-append_seam, take-append_seam}
pub use Rattle.std.proofs.lemmas.Bool.{and_from, and_parts, and_right, cases_Bool, cases_lt, cases_order, eq-eqb, eqb-false, eqb-true, false≢true, le-leb, le-ltb, leb-false, leb-true, lt-leb, lt-ltb, ltb-false, ne_eqb, not-false, not-true, or_from, or_left, or_parts, or_right}
pub use Rattle.std.proofs.lemmas.Bool.Decides.{Decides-eqb, nat_tests}
pub use Rattle.std.proofs.lemmas.Fmt.{decimal_by_steps, decimal_digit, decimal_step, length-decimal-le}
pub use Rattle.std.proofs.lemmas.Grind.{common_steps}
pub use Rattle.std.proofs.lemmas.Int.{fits_signed_from_abs, ints, to_z-of_z}
pub use Rattle.std.proofs.lemmas.Int.Digits.{digits_value_more}
pub use Rattle.std.proofs.lemmas.List.{append-nil, append_cancel_left, drop_at, get_or-take, length-append, length-drop, length-map, length-take, length-take-le, length_push, map-append, map_push, take-append-drop, take-append-le, take-take, take_at, take_more}
pub use Rattle.std.proofs.lemmas.List.Concat.{flat_map-append}
pub use Rattle.std.proofs.lemmas.List.Folds.{list_all-append, list_any-append, prefix_len-append}
pub use Rattle.std.proofs.lemmas.List.FromFn.{get_or-map-range_with_len}
pub use Rattle.std.proofs.lemmas.List.Sums.{prefix_len-le-length, prefix_len_is, sum_by-append, sum_by-cons}
pub use Rattle.std.proofs.lemmas.Result.{err_from_is_err_and}
pub use Rattle.std.proofs.lemmas.Simd.{bitmask_splat, first_set_mask_l}
pub use Rattle.std.proofs.lemmas.Slice.Eq.{bytes_eq-Decides, starts_is, strip_prefix_is, strip_suffix_is}
pub use Rattle.std.proofs.lemmas.Str.Parse.{digits_value-take-le}
pub use Rattle.std.specs.Bool.{Decides}
pub use Rattle.std.specs.Char.{digit_value}
pub use Rattle.std.specs.Cmp.Lexicographic.{pointwise}
pub use Rattle.std.specs.Int.{w128}
pub use Rattle.std.specs.Int.Signed.{le_z}
pub use Rattle.std.specs.List.{AllByRecursion, flat_map, list_all, list_any, onto_first, prefix_len, range_with_len, slice_split, starts_with, take_while}
pub use Rattle.std.specs.Option.{MatchOption, is_some}
pub use Rattle.std.specs.Ordering.{int_eq, ord_min}
pub use Rattle.std.specs.Prelude.{IfOk, IsTrue, codes, decimal, filter, if◌then◌else◌, min, nat_abs, nat_eq, nat_le, nat_lt, negsuc, not, pos, ℤ, ◌&&◌, ◌<ℤ◌, ◌||◌, ◌↔◌, ◌≢◌, ◌≤ℤ◌, ◌⊎◌}
pub use Rattle.std.specs.Str.{bytes_eq}
pub use Rattle.std.specs.Str.Parse.{digits_value, digits_value_after}
