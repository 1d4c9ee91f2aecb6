-- What this crate's proofs use of other crates and of its specs.
unfoldable pub use Rattle.clap.proofs.OnLiterals.{clap_on_literals}
pub use Rattle.clap.proofs.WalkLemmas.{both, first_value-rows}
pub use Rattle.clap.specs.Faults.{bundle_fault, bundle_step_fault, check_fault, defaults_fault, entered_fault, flag_word_fault, long_fault, other_fault, settle_fault, short_fault, step_fault, turn_fault, use_fault, word_fault}
unfoldable pub use Rattle.clap.specs.Faults.{flags_fault, walk_fault}
pub use Rattle.clap.specs.Kinds.{HasKind, IsAmong, Kinds, or_else}
pub use Rattle.clap.specs.Lexer.{has_byte, long_of, long_of_rest, name_and_value, short_of, short_of_rest, strip_byte}
pub use Rattle.clap.specs.Simple.{Shape, entered, new_app, new_rule, with_rule}
pub use Rattle.clap.specs.Walk.{Held, Row, Rule, Step, Text, Waiting, Walk, after_flag, after_step, arg_by_index, arg_by_long, arg_by_short, bundle_step, default_rows, finished, first_of, has_row, idle, is_empty, is_pending, long_or_other, nothing_held, option, plain, plain_word, positional, pushed, reading_by, settled, short_or_plain, subcommand_or_other, trailing, used, option as waits_for, walk_from, with_default, word_met}
unfoldable pub use Rattle.clap.specs.Walk.{bundle_met, walked}
pub use Rattle.clap.specs.Words.{App, HasMatchesOf, app_of, fault_of, first_value, found_of, is_simple, is_simple_and_free, kind_of, matches_of, rule_of}
pub use Rattle.clap.specs.declared.builder.action.ArgAction.TheVariants.{Set}
pub use Rattle.clap.specs.declared.error.Error.{Error}
pub use Rattle.clap.specs.declared.error.kind.ErrorKind.{ErrorKind}
pub use Rattle.clap.specs.declared.error.kind.ErrorKind.TheVariants.{OutOfMemory}
pub use Rattle.clap.specs.declared.parser.matches.ArgMatches.{ArgMatches}
pub use Rattle.crn_cert.proofs.CallerLemmas.{formed_answers_have_formed_verdicts, have_more, is_true_tight, open_tight}
pub use Rattle.crn_cert.specs.Answers.{verdicts_of}
pub use Rattle.crn_cert.specs.Built.{built}
pub use Rattle.crn_cert.specs.Faults.{AfterEnd, BadEvidence, BadField, BadHeader, BadLeaf, BadNetwork, BadVector, DocumentTooLong, EndsEarly, LineTooLong, NodeNotAllowed, NotIndependent, NotSpanned, NumberWide, TreeEndsEarly, TreeGoesOn, UnknownWord, WrongClasses, WrongNumber, WrongOrder, WrongShape, WrongVerdict, WrongWalk, fault_number}
pub use Rattle.crn_cert.specs.Formed.{AreFormed}
pub use Rattle.crn_cert.specs.FormedVerdicts.{AreFormedVerdicts}
pub use Rattle.crn_cert.specs.Law.{IsTrueOrOpen}
pub use Rattle.crn_cert.specs.Licensed.{AllTrueOrLicensed, IsTrueOrLicensed}
pub use Rattle.crn_cert.specs.Questions.{Earlier, IsOpen, Q1, Q2, Q5, Question, on}
pub use Rattle.crn_cert.specs.Shares.{Shared}
pub use Rattle.crn_cert.specs.TreeSizes.{HaveFewNodes}
pub use Rattle.crn_cert.specs.Valid.{AreValid}
pub use Rattle.crn_cert.specs.Verdicts.{tight}
pub use Rattle.crn_cert.specs.declared.answer.Answer.{Answer}
pub use Rattle.crn_cert.specs.declared.answer.Verdict.{Verdict}
pub use Rattle.crn_ctext.proofs.CallerLemmas.{answers_formed, documents_are_judged, ends_with, first_is_one, gives_one, gives_or_fails, good_documents_are_read, good_one, records_answered, answers_formed as records_formed, stops_first, stops_later}
pub use Rattle.crn_ctext.specs.Blocks.{ReadOf, course}
pub use Rattle.crn_ctext.specs.Course.{IsReported}
pub use Rattle.crn_ctext.specs.Courses.{IsSettled, none_own}
pub use Rattle.crn_ctext.specs.Documents.{FitsShare, Share, document2, share_of}
pub use Rattle.crn_ctext.specs.Judged.{AreFormedOf, IsGood, IsReadOf, ReadDocumentsAreGood}
pub use Rattle.crn_ctext.specs.Linked.{AreSound, FormedRecordsAreOfAnswers, SharedDocumentsAreGood, SharesFit, records_of}
pub use Rattle.crn_ctext.specs.Meaning.{meaning, versions}
pub use Rattle.crn_ctext.specs.PartBlocks.{verdicts_on}
pub use Rattle.crn_ctext.specs.Parts.{AreJudged, IsPartDocument, IsPartFault, IsPartRead, part_document}
pub use Rattle.crn_ctext.specs.Records.{Record, numbers_text}
pub use Rattle.crn_ctext.specs.Shares.{as_share}
pub use Rattle.crn_document.specs.Check.{Accepts, CheckGives, IsAccepted, IsAnswered, Rejects}
pub use Rattle.crn_document.specs.declared.check.Accepted.{Accepted}
pub use Rattle.crn_endo.specs.Answer.{IsEndoAnswer, IsLicensedEndo}
pub use Rattle.crn_endo_check.specs.Endo.{IsFormedEndo}
pub use Rattle.crn_endo_check.specs.declared.endo.Endo.TheVariants.{Large}
pub use Rattle.crn_endo_text.proofs.CallerLemmas.{endo_is_answered, course_settled as endo_settled}
pub use Rattle.crn_endo_text.specs.Document.{IsSeenOf}
pub use Rattle.crn_indep_check.specs.Finest.{label_of}
pub use Rattle.crn_indep_check.specs.Parts.{IsFormedParts}
pub use Rattle.crn_indep_check.specs.Shown.{greatest}
pub use Rattle.crn_indep_check.specs.declared.parts.Parts.{Parts}
pub use Rattle.crn_indep_check.specs.declared.parts.Parts.TheVariants.{Split}
pub use Rattle.crn_indep_text.proofs.CallerLemmas.{parts_is_answered, course_settled as parts_settled}
pub use Rattle.crn_indep_text.specs.Document.{seen_of}
pub use Rattle.crn_io.proofs.CallerLemmas.{WroteAll-then}
pub use Rattle.crn_io.specs.Device.{Rose, SinkSeen, SourceSeen}
pub use Rattle.crn_io.specs.Lines.{beginning}
pub use Rattle.crn_io.specs.Pull.{Consumes, HasNoneLeft}
pub use Rattle.crn_io.specs.Push.{HasNoRoom}
pub use Rattle.crn_io.specs.Read.{ConsumesUpTo, ReadGives}
pub use Rattle.crn_io.specs.Write.{WroteAll, WrotePrefix}
pub use Rattle.crn_io.specs.declared.fault.ReadStop.{ReadStop}
pub use Rattle.crn_io.specs.declared.fault.ReadStop.TheVariants.{Failed, TooLong}
pub use Rattle.crn_io.specs.declared.lines.TheConstants.{MAX_DOCUMENT}
pub use Rattle.crn_reading.specs.Reads.{IsTextOf, PullsAwaited, ReadingGives, ReadsAll}
pub use Rattle.crn_reading.specs.declared.fault.CheckStop.{CheckStop}
pub use Rattle.crn_render.proofs.CallerLemmas.{fault_lines_are_short, reports_are_short, summaries_are_short}
pub use Rattle.crn_render.specs.Faults.{IsDocumentCode}
unfoldable pub use Rattle.crn_render.specs.Faults.{usage_line}
pub use Rattle.crn_render.specs.Length.{Has32Bits}
pub use Rattle.crn_render.specs.Report.{render}
pub use Rattle.crn_render.specs.Summary.{summary}
pub use Rattle.crn_robust.specs.Law.{CasesDecideRobustness, IsTrueOf}
pub use Rattle.crn_robust.specs.Pick.{IsPicked}
pub use Rattle.crn_robust.specs.Robust.{IsCase}
pub use Rattle.crn_robust.specs.declared.robust.Robust.TheVariants.{Number, Rests}
pub use Rattle.crn_robust_text.proofs.CallerLemmas.{blocks_learned, blocks_true, course_settled, robust_is_answered, course_settled as robust_settled}
pub use Rattle.crn_robust_text.specs.Document.{AreInside, IsFormed, IsReadAs, IsValid, ValidAreTrue, ValidLinesAreTrue, blocks_of, rests_on, said_of}
pub use Rattle.crn_run.specs.Inner.Network.{NetworkRead}
pub use Rattle.crn_run.specs.Inner.Parse.{Means, MeansBudget, MeansNumber, MeansPart, is_two_dashes}
unfoldable pub use Rattle.crn_run.specs.Inner.Parse.{Gives, IsRead, crnt_app}
pub use Rattle.crn_run.specs.Inner.Steps.{DocumentStopGives, HasNamedCode, HasNoMemory, LineGives, NetworkGives, OutputGives, StopGives}
pub use Rattle.crn_run.specs.Parts.{AreTrueOnRobustness, IsFaultyOf, IsGoodOf, IsLeftBy, IsLicensedOnRobustness, IsPartRejectionOf, IsProofOf, IsVerdictOf, Subject, course_of, endo_verdict, parts_verdict, persist_verdict, ranks_line, robust_verdict, subject_of}
pub use Rattle.crn_run.specs.Run.{AreAnswersOf, AreLeftBy, Devices, EndsWritten, HasOpen, IsAllowed, IsCertificateOf, IsCheckOf, IsComplete, IsFaulty, IsFaultyDocument, IsOutput, IsQuiet, IsReadBy, IsReadFor, IsReadForOutput, IsReadOut, IsReadWithin, IsRefusalOf, IsRejectionOf, IsReportOf, IsSpelled, IsSummaryOf, OrRefused, OrRejected, ReadsNetwork, RunGives, Shows, WasLeft, certificate, refused_line, rejected_line, verdicts_in}
pub use Rattle.crn_run.specs.Words.{AreWithBudget, IsCommand, Say, SayACommand, SayPlain, WriteBudget, part_name}
pub use Rattle.crn_run.specs.declared.network.Stop.{Stop}
pub use Rattle.crn_run.specs.declared.status.Status.{Status}
pub use Rattle.crn_run.specs.declared.status.Status.TheVariants.{Done, NoMemory, OpenLeft, ReadFault, Refused, Rejected, Usage, WriteFault}
pub use Rattle.crn_run.specs.declared.words.Command.{Command}
pub use Rattle.crn_run.specs.declared.words.Command.TheVariants.{Certify, Check, Prove, Report, Sample, Verify}
pub use Rattle.crn_run.specs.declared.words.PartName.{PartName}
pub use Rattle.crn_run.specs.declared.words.PartName.TheVariants.{Decomposition, Endo, Persist, Robust}
pub use Rattle.crn_sample.specs.Sample.{sample_text}
pub use Rattle.crn_sample.specs.declared.limits.TheConstants.{MAX_SAMPLE}
pub use Rattle.crn_siphon_check.specs.Answers.{IsAnswer, IsLicensed, NoLaw, NoSiphon, Said, Spent, Wide, Yes}
pub use Rattle.crn_siphon_check.specs.declared.answer.Outcome.{Outcome}
pub use Rattle.crn_siphon_check.specs.declared.answer.Outcome.TheVariants.{No, Undecided}
pub use Rattle.crn_siphon_text.proofs.CallerLemmas.{persist_is_answered, course_settled as persist_settled}
pub use Rattle.crn_siphon_text.specs.Document.{HasFewNodes, IsOutcomeOf, WrittenAreDocuments, meant, part, records}
pub use Rattle.crn_solve.specs.OnRank.{AreRankAnswers}
pub use Rattle.crn_solve.specs.Spent.{AreOpenIfSpent}
pub use Rattle.crn_solve.specs.Turns.{PreferTheVector}
pub use Rattle.crn_solve.specs.Visits.{HaveNodeForEachVisit}
pub use Rattle.crn_text.proofs.CallerLemmas.{no_fault, one_fault}
pub use Rattle.crn_text.specs.Spells.{Fault, IsTooLong, Spells}
pub use Rattle.crn_text.specs.Tokens.{lines}
pub use Rattle.crn_text.specs.declared.fault.TextCode.{TextCode}
pub use Rattle.crn_text.specs.declared.fault.TextCode.TheVariants.{TextTooLong}
pub use Rattle.crn_vec.proofs.CallerLemmas.{all_at, filter_few, head_is, some_is, tail_is}
pub use Rattle.crn_vec.specs.Network.{IsName, IsNetwork, Net}
pub use Rattle.crn_vec.specs.declared.limits.TheConstants.{DEFAULT_BUDGET, MAX_BUDGET, MAX_TEXT}
pub use Rattle.std.proofs.Common.{Bool, Err, List, None, Ok, Option, Result, Some, [], ap, ap₂, arith, codes, cond, drop, eqb-true, false, inl, inr, length, map, ne_eqb, not, one-add, refl, rules, subst, suc, sym, take, tests, true, zero, ℕ, ℤ, ◌&&◌, ◌*◌, ◌++◌, ◌+◌, ◌-◌, ◌<◌, ◌==◌, ◌||◌, ◌∙◌, ◌∷◌, ◌≡◌, ◌≤◌, ◌⊎◌}
pub use Rattle.std.proofs.lemmas.Bool.{cases_Bool, cases_eq}
pub use Rattle.std.proofs.lemmas.Fmt.{length-decimal-le_wide}
pub use Rattle.std.proofs.lemmas.Iterator.{YieldsList-from_slice}
pub use Rattle.std.proofs.lemmas.Iterator.Search.{any_from_yields_List}
pub use Rattle.std.proofs.lemmas.List.{append-nil, append_assoc, length-append, map-id, take_all}
pub use Rattle.std.proofs.lemmas.List.FromFn.{length-map-range_with_len, length-range_with_len}
pub use Rattle.std.proofs.lemmas.Option.{same_Some}
pub use Rattle.std.proofs.lemmas.Result.{IfOk-weaker, err_from_is_err_and}
pub use Rattle.std.proofs.lemmas.Slice.Eq.{bytes_eq-Decides}
pub use Rattle.std.specs.Char.{digit_value}
pub use Rattle.std.specs.List.{AllByRecursion, before_first, list_all, list_any, onto_first, position_or_len, range_with_len}
pub use Rattle.std.specs.Option.{option_map_or}
pub use Rattle.std.specs.Prelude.{IfSome, IsTrue, MatchOption, String, decimal, encode_utf8, filter, fold, if◌then◌else◌, is_some, option_and_then, pos, slice_get, slice_index_or, string_bytes, unwrap_or, ◌↔◌}
pub use Rattle.std.specs.Str.{bytes_eq, chars}
pub use Rattle.std.specs.Str.Parse.{IsNumeral, digits_value}
pub use Rattle.std.specs.declared.alloc.Global.{Global}
