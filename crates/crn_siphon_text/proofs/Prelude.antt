-- What this crate's proofs use of other crates and of its specs.
pub use Rattle.crn_cert.specs.Data.{IsBasisOf}
pub use Rattle.crn_cert.specs.Ranges.{AreBits, AreFree}
pub use Rattle.crn_cert.specs.Says.{RuleOutConservation}
pub use Rattle.crn_ctext.proofs.CallerLemmas.{AllPlain, HasNoEnd, HaveWords, IsAnswered, IsBounded, IsDecided, IsFirst, IsPlain, Say, all_decided, are_words, asks_part_settled, bare_back, bare_row, bits_back, bits_fit, bool_decided, both_decided, documents_are_judged, each_below, either_no_end, either_settled, ends_with, first_back, fitting_is_plain, forms_yes, free_fits, free_row, give_back, give_no_end, give_settled, given, if_decided, in_by_test, int_decided, int_le_decided, law_decided, le_decided, line_of_word, line_on, lines_append, lines_three, lines_two, moved, nat_decided, no_end_then, no_law_decided, none_said, not_decided, number_back, number_fits, number_then, one_back, one_said, only, own_settled, part_document_short, part_no_end, part_settled, plain_bare, plain_is_line, reactions_few, reactions_row, record_is, settled_then, short_both, small_bounded, some_below, species_few, species_row, step_fails_then, step_then, stops_first, stops_later, test_back, test_no_end, test_on, wide_fields, wide_numbers, wide_numbers_fit, word_then, written_cuts, written_then, wrote_as}
pub use Rattle.crn_ctext.specs.Answers.{small_record}
pub use Rattle.crn_ctext.specs.Blocks.{either, word_of}
pub use Rattle.crn_ctext.specs.Course.{Course, Give, test_own, ◌>>=◌}
unfoldable pub use Rattle.crn_ctext.specs.Course.{FailsFirst, Gives}
pub use Rattle.crn_ctext.specs.Courses.{IsSettled}
unfoldable pub use Rattle.crn_ctext.specs.Courses.{IsWrittenBy}
pub use Rattle.crn_ctext.specs.Documents.{IsOneOf, one_word, record_lines}
pub use Rattle.crn_ctext.specs.Kinds.{end_form, free_form, just, record_form, small, small_form}
pub use Rattle.crn_ctext.specs.PartLines.{AreChoices, field_of, forms_in}
pub use Rattle.crn_ctext.specs.Parts.{asks_part, part_course, part_document, part_head}
pub use Rattle.crn_ctext.specs.Records.{Field, Fits, Form, Free, Record, Rising, Says, kind_of, line, number_text, numbers_text, record_text}
pub use Rattle.crn_ctext.specs.Steps.{StepGives}
pub use Rattle.crn_ctext.specs.declared.part.Choice.{Choice}
pub use Rattle.crn_ctext.specs.declared.part.Field.{Field as Run}
pub use Rattle.crn_io.proofs.CallerLemmas.{Wrote-all, WroteAll-then}
pub use Rattle.crn_io.specs.Device.{SourceSeen}
pub use Rattle.crn_io.specs.Lines.{Place}
pub use Rattle.crn_io.specs.Next.{KeptLines}
pub use Rattle.crn_io.specs.Write.{WroteAll}
pub use Rattle.crn_reading.proofs.CallerLemmas.{IsGiven, answer_stops, answer_then, document_answered, document_gives, end_exits, forms_named, head_stop, head_then, last_exits, memory_stops, own_fails, own_holds, place_is, placed, read_to_the_end, step_exits, step_gives, step_map, step_then_ends, step_then_is, stop_after, stop_first, tests_fail, tests_give, words_named}
unfoldable pub use Rattle.crn_reading.proofs.CallerLemmas.{find}
pub use Rattle.crn_reading.specs.Records.{IsPartSaid}
pub use Rattle.crn_reading.specs.Steps.{CanRead, StepIs, StopIs}
pub use Rattle.crn_reading.specs.declared.fault.CheckStop.{CheckStop}
pub use Rattle.crn_reading.specs.declared.fault.CheckStop.TheVariants.{Rejected}
pub use Rattle.crn_reading.specs.declared.reading.Reading.{Reading}
pub use Rattle.crn_siphon_check.specs.Answers.{IsFormed, IsValid, NoLaw, NoSiphon, Said, Yes as SaysYes, Spent, Wide, said_of}
pub use Rattle.crn_siphon_check.specs.Prefixes.{IsBad, IsOut, IsVoid}
pub use Rattle.crn_siphon_check.specs.Preorder.{AreNodesOf, listed, preorder, weights_of}
pub use Rattle.crn_siphon_check.specs.Siphons.{Covers, HasMember, HoldsMember, IsClosed, IsSemiLaw, IsSiphon, IsZeroOutside, set_of}
pub use Rattle.crn_siphon_check.specs.Trees.{Bad, Fork, IsFormedTree, IsValidTree, Law, Plan, Void, node_count}
pub use Rattle.crn_siphon_check.specs.declared.answer.Outcome.{Outcome}
pub use Rattle.crn_siphon_check.specs.declared.answer.Outcome.TheVariants.{No, Undecided, Yes}
pub use Rattle.crn_siphon_check.specs.declared.tree_node.SiphonNode.{SiphonNode}
pub use Rattle.crn_siphon_text.specs.Document.{Forks, HasFewNodes, HasLaw, IsBadBy, IsOutcomeOf, IsOwn, Node, Voids, WrittenAreDocuments, asks_cover, asks_no, asks_node, asks_none, asks_persist, asks_rest, asks_yes, cover_forms, goes_on, law_forms, leaf, meant, no_forms, node_forms, node_of, outcome_of, part, records, tree_records, verdict_forms, wide_form, words}
unfoldable pub use Rattle.crn_siphon_text.specs.Document.{asks_tree}
pub use Rattle.crn_siphon_text.specs.Inner.LinesRead.{ReadsOutcome}
pub use Rattle.crn_siphon_text.specs.Inner.NodesRead.{asks_children}
pub use Rattle.crn_siphon_text.specs.Inner.Written.{record_of}
pub use Rattle.crn_vec.proofs.CallerLemmas.{all_at, all_from, all_given, all_in, lt_or, map_more, past_end, refused, same_test, vector_at, vectors_count, zip_append}
pub use Rattle.crn_vec.specs.Deficiency.{IsConservationLaw, vectors}
pub use Rattle.crn_vec.specs.Lists.{IsIn}
pub use Rattle.crn_vec.specs.Network.{Holds, IsNetwork, Net, amount_at, reaction_vector}
pub use Rattle.crn_vec.specs.Rank.{combination_at}
pub use Rattle.crn_vec.specs.Vectors.{dot, entry}
pub use Rattle.crn_vec.specs.declared.limits.TheConstants.{MAX_BUDGET}
pub use Rattle.std.proofs.Common.{Bool, Err, List, Ok, Result, [], ap, append_assoc, ap₂, arith, drop, false, get_or, inl, inr, length, map, of_z, refl, subst, suc, sym, take, true, zero, ℕ, ◌*◌, ◌++◌, ◌+◌, ◌-◌, ◌<◌, ◌∙◌, ◌∷◌, ◌≡◌, ◌≢◌, ◌≤◌, ◌⊎◌}
pub use Rattle.std.proofs.lemmas.Bool.{false≢true}
pub use Rattle.std.proofs.lemmas.Bool.Decides.{Decides-int_eq}
pub use Rattle.std.proofs.lemmas.Int.{ints}
pub use Rattle.std.proofs.lemmas.List.{append-nil, length-append, length-map, map-append, take-append-drop, take_all, take_more}
pub use Rattle.std.proofs.lemmas.List.Concat.{flat_map-append}
pub use Rattle.std.proofs.lemmas.Result.{err_from_is_err_and}
pub use Rattle.std.specs.Int.{w128}
pub use Rattle.std.specs.List.{AllByRecursion}
pub use Rattle.std.specs.Ordering.{int_eq}
pub use Rattle.std.specs.Prelude.{Option, codes, nat_abs, pos, slice_index_or, unsigned_abs, ℤ, ◌≤ℤ◌}
pub use Rattle.std.specs.Str.{bytes_eq}
