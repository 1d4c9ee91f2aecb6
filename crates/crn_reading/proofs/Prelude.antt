-- What this crate's proofs use of other crates and of its specs.
pub use Rattle.crn_cert.specs.Faults.{BadHeader, BadNetwork, Fault, WrongOrder, fault_number}
pub use Rattle.crn_ctext.proofs.CallerLemmas.{IsNoLine, after_lines, after_opening, first_is_one, gives_counts, gives_one, gives_or_fails, line_is_awaited, line_is_due, line_is_missing, step_awaits_before, step_awaits_then, step_ends_then, step_fails_before, step_fails_then, step_then}
pub use Rattle.crn_ctext.specs.Blocks.{IsNetworkOf, ended, network_line, reads_of, title, word_of}
unfoldable pub use Rattle.crn_ctext.specs.Blocks.{asks_lines}
pub use Rattle.crn_ctext.specs.Course.{Course, Give, Test, due, ends, find, test, test_own, ◌>>=◌}
unfoldable pub use Rattle.crn_ctext.specs.Course.{FailsFirst, Gives}
pub use Rattle.crn_ctext.specs.Courses.{IsSettled}
pub use Rattle.crn_ctext.specs.Documents.{IsOneOf}
pub use Rattle.crn_ctext.specs.Expect.{forms_of, is_after, misplaced, tests_of}
pub use Rattle.crn_ctext.specs.Kinds.{known_words, tree_words}
pub use Rattle.crn_ctext.specs.PartLines.{forms_in, texts_of}
pub use Rattle.crn_ctext.specs.Parts.{Part, asks_part, part_course, part_ending, part_opening, part_title, reads_part}
pub use Rattle.crn_ctext.specs.Records.{Form, Record}
pub use Rattle.crn_ctext.specs.Steps.{IsRest, StepAwaits, StepEnds, StepFails, StepGives, cut}
unfoldable pub use Rattle.crn_ctext.specs.Steps.{Awaits}
pub use Rattle.crn_ctext.specs.declared.part.Choice.{Choice}
pub use Rattle.crn_ctext.specs.declared.part.Field.{Field as Run}
pub use Rattle.crn_io.proofs.CallerLemmas.{Consumes-none, Consumes-then, asked_begun, begun_none, end_is}
pub use Rattle.crn_io.specs.Device.{Rose, SourceSeen}
pub use Rattle.crn_io.specs.Lines.{BreaksLine, HasMore, IsBegun, IsLine, Place, beginning, early}
pub use Rattle.crn_io.specs.Next.{EndIs, KeptLines, NextGives, NextIs, code_of, place}
pub use Rattle.crn_io.specs.Pull.{Consumes, HasNoneLeft}
pub use Rattle.crn_io.specs.declared.lines.TheConstants.{MAX_AHEAD, MAX_DOCUMENT}
pub use Rattle.crn_io.specs.declared.next.Next.{Next}
pub use Rattle.crn_io.specs.declared.next.Next.TheVariants.{DocumentTooLong, End, Failed, Last, Line, LineTooLong}
pub use Rattle.crn_reading.specs.Ending.{EndStepIs, LastIs, ends_with}
pub use Rattle.crn_reading.specs.Inner.Network.{IsCanonicalText}
pub use Rattle.crn_reading.specs.Inner.Opening.{AreAdded, HasLongLine, IsAddedLine, IsLongLine}
pub use Rattle.crn_reading.specs.Opening.{IsTitleOf, SaysCount, count_course, network_course, part_title_course}
pub use Rattle.crn_reading.specs.Reads.{AnswersWith, AwaitedIn, IsAnsweredBy, IsRead, IsTextOf, PullsAwaited, PullsDocument, ReadingGives}
pub use Rattle.crn_reading.specs.Records.{IsPartSaid, ReadsPart}
pub use Rattle.crn_reading.specs.Steps.{CanRead, IsNew, StepIs, StepStops, StopIs}
pub use Rattle.crn_reading.specs.declared.fault.CheckStop.{CheckStop}
pub use Rattle.crn_reading.specs.declared.fault.CheckStop.TheVariants.{Rejected}
pub use Rattle.crn_reading.specs.declared.opening.TheConstants.{NETWORK_LINE}
pub use Rattle.crn_reading.specs.declared.reading.Reading.{Reading}
pub use Rattle.crn_text.proofs.CallerLemmas.{good_terms, held, held_length, line_text, no_fault, side_held, side_length, side_text, spelling_unique, spells_its_network}
pub use Rattle.crn_text.specs.Canonical.{canonical, complex_text, reaction_line}
pub use Rattle.crn_text.specs.Spells.{Spells}
pub use Rattle.crn_text.specs.declared.fault.TextCode.{TextCode}
pub use Rattle.crn_text.specs.declared.fault.TextCode.TheVariants.{NoMemory}
pub use Rattle.crn_vec.proofs.CallerLemmas.{all_at, and_cases, lt_or}
pub use Rattle.crn_vec.specs.Network.{IsNetwork, IsPartialNetwork, IsVector, JoinsTwo, Net}
pub use Rattle.std.proofs.Common.{Bool, Err, IsTrue, List, None, Ok, Option, Result, Some, [], ap, append_assoc, ap₂, arith, drop, false, get_or, inl, inr, length, length-drop, refl, rules, subst, suc, sym, take, true, zero, ℕ, ◌++◌, ◌+◌, ◌-◌, ◌<◌, ◌==◌, ◌∙◌, ◌∷◌, ◌≡◌, ◌≤◌, ◌⊎◌}
pub use Rattle.std.proofs.Math.Seq.{drop-append_seam, get_or-append_seam}
pub use Rattle.std.proofs.lemmas.Bool.{cases_lt, eqb-true, false≢true}
pub use Rattle.std.proofs.lemmas.Fmt.{decimal_digit}
pub use Rattle.std.proofs.lemmas.List.{append-nil, drop-append-le, get_or-append_right, get_or_append_left, length-append, take-append-drop}
pub use Rattle.std.proofs.lemmas.Result.{err_from_is_err_and}
pub use Rattle.std.specs.List.{AllByRecursion, flat_map}
pub use Rattle.std.specs.Prelude.{OnOk, codes, if◌then◌else◌, slice_index_or, ℤ, ◌&&◌}
pub use Rattle.std.specs.Str.{bytes_eq}
