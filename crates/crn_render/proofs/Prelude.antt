-- What this crate's proofs use of other crates and of its specs.
pub use Rattle.crn_cert.proofs.CallerLemmas.{few_numbers, formed_answers_have_formed_verdicts, numbered, some_number, vector_entry}
pub use Rattle.crn_cert.specs.Answers.{verdicts_of}
pub use Rattle.crn_cert.specs.Blocks.{FitsHead}
pub use Rattle.crn_cert.specs.Built.{built}
pub use Rattle.crn_cert.specs.Data.{IsBasisOf, Num}
pub use Rattle.crn_cert.specs.Formed.{AreFormed, HeadMayBe, IsWideGap}
pub use Rattle.crn_cert.specs.FormedVerdicts.{AreFormedVerdicts, IsBaseList, IsFormedVerdict, ListsMayBe}
pub use Rattle.crn_cert.specs.Parts.{AreSignalRows}
pub use Rattle.crn_cert.specs.Questions.{Earlier, Q1, Q10, Q11, Q12, Q13, Q14, Q15, Q2, Q3, Q4, Q5, Q6, Q7, Q8, Q9, Question, count_of, has_vector, number, on, questions, terminal_of}
pub use Rattle.crn_cert.specs.Ranges.{AreFree, AreFrom, IsFrom, IsNarrow}
pub use Rattle.crn_cert.specs.Says.{AreLinkageClasses, AreStrongClasses, HasNoReverse, IsPlane, IsReactionNumber, IsTrueOf, IsTurn, LeavesStrongClass, SaysConcordant, SaysConfluence, SaysConservative, SaysDeficiency, SaysDeficiencyOne, SaysDeficiencyZero, SaysLinkageClasses, SaysPositivelyDependent, SaysRank, SaysRegular, SaysReversible, SaysSignal, SaysStrongClasses, SaysStronglyConcordant, SaysWeaklyReversible, by_turn}
pub use Rattle.crn_cert.specs.Table.{sizes_of}
pub use Rattle.crn_cert.specs.Valid.{class_places, ends_at, is_least_of_pair, is_within_terminal, linkage, linkage_count, pair_places}
pub use Rattle.crn_cert.specs.Verdicts.{tight}
pub use Rattle.crn_cert.specs.declared.answer.Answer.{Answer}
pub use Rattle.crn_cert.specs.declared.answer.Gap.{Gap}
pub use Rattle.crn_cert.specs.declared.answer.Gap.TheVariants.{Budget, Rests, Wide}
pub use Rattle.crn_cert.specs.declared.answer.Verdict.{Verdict}
pub use Rattle.crn_cert.specs.declared.answer.Verdict.TheVariants.{Classes, Deficiency, No, NoClass, NoCycle, NoDependence, NoNumber, NoPair, NoReaction, NoReaction as NoReactionVerdict, NoSum, NoTerminal, NoVec, NotApplicable, NotRegular, OnlyZero, Plane, Rank, Strong, Unknown, Yes, YesSignal, YesVec, YesWeak}
pub use Rattle.crn_graph.proofs.CallerLemmas.{one_count, one_labels, one_strong_labels}
pub use Rattle.crn_io.proofs.CallerLemmas.{Wrote-all, Wrote-prefix, Wrote-then, WroteAll-none, WroteAll-step, WroteAll-then, WrotePrefix-more, WrotePrefix-step, WrotePrefix-then, flat_map_step, flat_map_whole, joined_more, joined_push, joined_step, joined_whole}
pub use Rattle.crn_io.specs.Joined.{joined, with_separator}
pub use Rattle.crn_io.specs.Write.{WroteAll}
pub use Rattle.crn_io.specs.declared.lines.TheConstants.{MAX_DOCUMENT}
pub use Rattle.crn_render.specs.Details.{arrow_text, class_text, complex_texts, details, gap_details, lines_from, members_text, of_label, reaction_text, shelf, shelves_text, sigma, signal_details, terminal_text, titled_line, vector_text, vector_title, walk_text}
unfoldable pub use Rattle.crn_render.specs.Details.{class_line, index_line, strong_line, system_line}
pub use Rattle.crn_render.specs.Faults.{TextCodesHaveTheirNames, document_codes, document_name, name_beside}
unfoldable pub use Rattle.crn_render.specs.Faults.{fault_line}
pub use Rattle.crn_render.specs.Inner.Reading.{IsReadable, question_at}
pub use Rattle.crn_render.specs.Length.{FaultLinesAreShort, ReportsAreShort, SummariesAreShort}
pub use Rattle.crn_render.specs.Report.{all_lines, head, one_if_open, open_count, question_lines, render}
unfoldable pub use Rattle.crn_render.specs.Report.{complexes_line, first_line, open_line, reactions_line, species_line}
pub use Rattle.crn_render.specs.Summary.{brief, briefs}
unfoldable pub use Rattle.crn_render.specs.Summary.{accepted_line, sample_line, verdicts_line}
pub use Rattle.crn_render.specs.Titles.{AreTwoReasons, TrueVerdictsHaveOneLine}
pub use Rattle.crn_render.specs.Words.{gap_words, no_words, numbers_text, question_line, title, verdict_words, weak_words, yes_words}
pub use Rattle.crn_text.proofs.CallerLemmas.{good_terms, held_length, side_held, side_length}
pub use Rattle.crn_text.specs.Canonical.{complex_text}
unfoldable pub use Rattle.crn_text.specs.Canonical.{side}
pub use Rattle.crn_text.specs.Codes.{code_name, code_number}
pub use Rattle.crn_text.specs.declared.fault.TextCode.{TextCode}
pub use Rattle.crn_text.specs.declared.fault.TextCode.TheVariants.{BadName, CoefficientTooLarge, EmptySide, NameTooLong, NoArrow, NoMemory, NotAscii, SelfReaction, StrayMark, TextTooLong, TooManyComplexes, TooManyReactions, TooManySpecies, ZeroCoefficient}
pub use Rattle.crn_vec.proofs.CallerLemmas.{all_at, all_from, all_given, class_back, class_then, column_long, deficiency_is_one, dot_step, entry-column, filter_few, held, length-column, lt_or, next_sum, number_is_one, past_end, product_within, range_bounds, rank_is_one_number, reaction_in, strong_back, strong_then, sum_within, vector_at, vectors_count, within_at}
pub use Rattle.crn_vec.specs.Concordance.{sign}
pub use Rattle.crn_vec.specs.Confluence.{HasConfluenceLine, HasNoConfluence}
pub use Rattle.crn_vec.specs.Deficiency.{AreAtMostOne, AreDeficiencies, HasOneTerminalEach, HasOtherSum, HasTerminalClasses, IsClassDeficiency, IsComplex, IsDeficiencyOne, IsFirstLargeClass, IsFirstSplitClass, IsLabelled, class_vectors, vectors}
pub use Rattle.crn_vec.specs.Elementary.{AreProportional}
pub use Rattle.crn_vec.specs.Kept.{KeptInts, KeptNums}
pub use Rattle.crn_vec.specs.Linkage.{SameClass}
pub use Rattle.crn_vec.specs.Network.{IsAmount, IsName, IsNetwork, IsVector, Net, minus, reaction_vector}
pub use Rattle.crn_vec.specs.Rank.{IsZero}
pub use Rattle.crn_vec.specs.Strong.{IsReversible, IsTerminal, ReactsTo, SameStrong, StaysStrong}
pub use Rattle.crn_vec.specs.Vectors.{column, dot, entry}
pub use Rattle.crn_vec.specs.Walks.{IsNumberOf}
pub use Rattle.crn_vec.specs.declared.limits.TheConstants.{MAX_AMOUNT, WIDE_SOLUTION}
pub use Rattle.std.proofs.Common.{List, Some, [], add-one, add-zero, ap, append_assoc, ap₂, arith, codes, drop, get_or, inl, inr, length, refl, rules, subst, suc, sym, take, take_all, to_z, zero, zero-add, ℕ, ◌&&◌, ◌*◌, ◌++◌, ◌+◌, ◌-◌, ◌<◌, ◌==◌, ◌^◌, ◌∙◌, ◌∷◌, ◌≡◌, ◌≢◌, ◌≤◌, ◌⊎◌}
pub use Rattle.std.proofs.Math.IntN.{*ℤ_comm}
pub use Rattle.std.proofs.Math.Nat.{suc-mul}
pub use Rattle.std.proofs.lemmas.Bool.{cases_Bool, cases_lt, eqb-true}
pub use Rattle.std.proofs.lemmas.Bool.Decides.{nat_tests}
pub use Rattle.std.proofs.lemmas.Fmt.{length-decimal-le_wide}
pub use Rattle.std.proofs.lemmas.Grind.{same_number_lists}
pub use Rattle.std.proofs.lemmas.Int.{ints}
pub use Rattle.std.proofs.lemmas.List.{append-nil, get_or-drop, get_or-map, length-append, length-drop, length-map}
pub use Rattle.std.proofs.lemmas.List.FromFn.{get_or-range_with_len, length-range_with_len}
pub use Rattle.std.proofs.lemmas.Option.{get_or_from_slice_get}
pub use Rattle.std.proofs.lemmas.Result.{err_from_is_err_and}
pub use Rattle.std.proofs.lemmas.Slice.Zip.{get_or-zip, length-zip}
pub use Rattle.std.specs.Fmt.{signed_decimal}
unfoldable pub use Rattle.std.specs.Fmt.{digits}
pub use Rattle.std.specs.Int.{w128}
pub use Rattle.std.specs.List.{AllByRecursion, flat_map, range_with_len, zip}
pub use Rattle.std.specs.Prelude.{Bool, IsTrue, decimal, false, if◌then◌else◌, map, min, negsuc, pos, slice_get, slice_index, sum, true, unsigned_abs, ℤ, ◌*ℤ◌, ◌+ℤ◌, ◌↔◌}
