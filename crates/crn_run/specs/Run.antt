-- What a run of the program reads, writes and answers.
-- Source: this project's own. Shapes: words and texts are lists of bytes; lines of a text count from 1.
use Rattle.std.specs.Prelude.{◌≡◌, ◌≤◌, ◌⊎◌, ◌+◌, ℕ, List, [], ◌∷◌, length, codes, Option, Some, None, IfSome}
use Rattle.crn_vec.specs.Network.{Net}
use Rattle.crn_vec.specs.declared.limits.TheConstants.{MAX_TEXT}
use Rattle.crn_io.specs.Device.{SourceSeen, SinkSeen, Rose}
use Rattle.crn_io.specs.Pull.{Consumes}
use Rattle.crn_io.specs.Read.{ConsumesUpTo}
use Rattle.crn_io.specs.Write.{WroteAll, WrotePrefix}
use Rattle.crn_io.specs.declared.lines.TheConstants.{MAX_AHEAD, MAX_DOCUMENT}
use Rattle.crn_text.specs.Codes.{code_number, code_name}
use Rattle.crn_text.specs.Spells.{Spells, Fault}
use Rattle.crn_text.specs.declared.fault.TextCode.{TextCode}
use Rattle.crn_cert.specs.declared.answer.Verdict.{Verdict}
use Rattle.crn_cert.specs.declared.answer.Answer.{Answer}
use Rattle.crn_cert.specs.Answers.{verdicts_of}
use Rattle.crn_cert.specs.Built.{built}
use Rattle.crn_cert.specs.Questions.{IsOpen}
use Rattle.crn_cert.specs.Formed.{AreFormed}
use Rattle.crn_cert.specs.Valid.{AreValid}
use Rattle.crn_cert.specs.Licensed.{AllTrueOrLicensed}
use Rattle.crn_cert.specs.TreeSizes.{HaveFewNodes}
use Rattle.crn_ctext.specs.Records.{Record}
use Rattle.crn_ctext.specs.Documents.{document2, share_of}
use Rattle.crn_ctext.specs.Judged.{IsGood, IsFaultOf}
use Rattle.crn_ctext.specs.Linked.{AreSound, records_of}
use Rattle.crn_ctext.specs.Meaning.{meaning, verdicts_said}
use Rattle.crn_document.specs.Check.{EndAtFault, PullsWhileOpen}
use Rattle.crn_solve.specs.Spent.{AreOpenIfSpent}
use Rattle.crn_solve.specs.Turns.{PreferTheVector}
use Rattle.crn_solve.specs.Visits.{HaveNodeForEachVisit}
use Rattle.crn_sample.specs.Sample.{sample_text}
use Rattle.crn_render.specs.Length.{Has32Bits}
use Rattle.crn_render.specs.Report.{render}
use Rattle.crn_render.specs.Summary.{summary}
use Rattle.crn_render.specs.Faults.{usage_line, fault_line, document_name}
use Rattle.crn_reading.specs.Reads.{AwaitedIn, PullsAwaited}
use Rattle.crn_run.specs.Parts.{IsLeftBy, IsProofOf, IsVerdictOf, IsPartRejectionOf, IsGoodOf, IsFaultyOf, course_of, subject_of}
use Rattle.crn_run.specs.Words.{IsCommand, SayACommand}
use Rattle.crn_run.specs.declared.words.Command.{Command}
use Rattle.crn_run.specs.declared.words.Command.TheVariants.{Report, Certify, Check, Sample, Prove, Verify}
use Rattle.crn_run.specs.declared.words.PartName.{PartName}
use Rattle.crn_run.specs.declared.status.Status.{Status}
use Rattle.crn_run.specs.declared.status.Status.TheVariants.{Done, OpenLeft, Refused, Rejected, Usage, ReadFault, WriteFault, NoMemory}

-- ---- answers

-- some verdict is open
abbrev pub HasOpen : List Verdict → Type 0
HasOpen [] = ⊥
HasOpen (v ∷ vs) = IsOpen v ⊎ HasOpen vs

-- The text spells the network, and the answers to its questions are formed, each true of it, or open
-- as it may be with this budget, and open if the visits of its search exceed the budget; a signal is
-- that of the negative of the confluence vector only if the vector has none.
pub record AreAnswersOf (budget : ℕ) (text : List ℕ) (net : Net) (answers : List Answer) : Type 0 where
  pub spells : Spells text net
  pub formed : AreFormed net [] built answers
  pub answered : AllTrueOrLicensed net budget [] built (verdicts_of answers)
  pub spent : AreOpenIfSpent net budget (verdicts_of answers)
  pub first : PreferTheVector net (verdicts_of answers)

-- none of the answers is open, if a run ends as Done, and some is, if it ends as OpenLeft
abbrev pub AreLeftBy : Status → List Answer → Type 0
AreLeftBy status answers = IsLeftBy (HasOpen (verdicts_of answers)) status

-- ---- texts that are written

-- the report of the network that the text spells, with the verdicts of these answers, of which each
-- decided one is valid
pub record IsReportOf (budget : ℕ) (text out : List ℕ) (answers : List Answer) : Type 0 where
  pub net : Net
  pub says : AreAnswersOf budget text net answers
  pub valid : AreValid net [] built answers
  pub written : out ≡ render built net (verdicts_of answers)

-- the document of a network and of answers, in version 2, with equal lists written once
abbrev pub certificate : Net → List Answer → List ℕ
certificate net answers =
    document2 built net (records_of net answers) (share_of (records_of net answers))

-- the document of the network that the text spells and of these answers, of which each decided one
-- is valid; no tree has more nodes than the budget, and each has one for each visit of its search;
-- it is a good document
pub record IsCertificateOf (budget : ℕ) (text out : List ℕ) (answers : List Answer) : Type 0 where
  pub net : Net
  pub says : AreAnswersOf budget text net answers
  pub valid : AreValid net [] built answers
  pub few : HaveFewNodes budget answers
  pub visits : HaveNodeForEachVisit net answers
  pub written : out ≡ certificate net answers
  pub good : IsGood out

-- the summary of the sample network of this number and of the verdicts of these answers, whose
-- document would be as one that is written for the text of the sample
pub record IsSummaryOf (number budget : ℕ) (out : List ℕ) (answers : List Answer) : Type 0 where
  pub document : List ℕ
  pub certified : IsCertificateOf budget (sample_text number) document answers
  pub written : out ≡ summary number certified.net (verdicts_of answers)

-- the verdicts that the records of a document say of its network
abbrev pub verdicts_in : Net → List (List Record) → List Verdict
verdicts_in net answers = verdicts_said built (meaning.start net) answers

-- the text is a good document, and this the report of its network and of the verdicts that the
-- records of its answers say, each true or open
pub record IsCheckOf (text out : List ℕ) : Type 0 where
  pub good : IsGood text
  pub sound : AreSound good.net built (verdicts_in good.net (records_of good.net good.answers))
  pub written : out ≡ render built good.net (verdicts_in good.net (records_of good.net good.answers))

-- the line that says a fault of a network text
abbrev pub refused_line : TextCode → (line : ℕ) → List ℕ
refused_line code line = fault_line (codes "refused") (code_number code) (code_name code) line

-- the line that says a fault of a document
abbrev pub rejected_line : (code line : ℕ) → List ℕ
rejected_line code line = fault_line (codes "rejected") code (document_name code) line

-- the line that says the first fault of a network text
pub record IsRefusalOf (text out : List ℕ) : Type 0 where
  pub line : ℕ
  pub code : TextCode
  pub fault : Fault text line code
  pub written : out ≡ refused_line code line

-- the line that says the first fault of a document, whose line and code have 32 bits
pub record IsRejectionOf (text out : List ℕ) : Type 0 where
  pub line : ℕ
  pub code : ℕ
  pub short : Has32Bits line × Has32Bits code
  pub fault : IsFaultOf text line code
  pub written : out ≡ rejected_line code line

-- what a command writes that reads a network text: the line of the text's fault if it is refused, and
-- else this
abbrev pub OrRefused : Status → (text out : List ℕ) → (said : Type 0) → Type 0
OrRefused Refused text out said = IsRefusalOf text out
OrRefused status text out said = said

-- what a command writes that reads a document: this if it is good, and that if it is rejected
abbrev pub OrRejected : Status → (good rejected : Type 0) → Type 0
OrRejected Done good rejected = good
OrRejected Rejected good rejected = rejected
OrRejected status good rejected = ⊥

-- what a command writes for a text, by the status that the run ends with; `sample` for any text
abbrev pub IsOutput : Command → Status → (text out : List ℕ) → Type 0
IsOutput (Report budget) status text out = OrRefused status text out
    ((answers : List Answer) × AreLeftBy status answers × IsReportOf budget text out answers)
IsOutput (Certify budget) status text out = OrRefused status text out
    ((answers : List Answer) × AreLeftBy status answers × IsCertificateOf budget text out answers)
IsOutput Check status text out = OrRejected status (IsCheckOf text out) (IsRejectionOf text out)
IsOutput (Sample number budget) status text out = (answers : List Answer) × AreLeftBy status answers
    × IsSummaryOf number budget out answers
IsOutput (Prove part budget) status text out =
    OrRefused status text out (IsProofOf (subject_of part) budget status text out)
IsOutput (Verify part) status text out =
    OrRejected status (IsVerdictOf (subject_of part) text out) (IsPartRejectionOf (subject_of part) text out)

-- what may be written for these words and this text
abbrev pub IsAllowed : List (List ℕ) → (text out : List ℕ) → Type 0
IsAllowed words text out = ((command : Command) × (status : Status) × IsCommand words command
    × IsOutput command status text out)
    ⊎ ((SayACommand words → ⊥) × (out ≡ usage_line))

-- ---- devices

-- what contracts see of a source and of a sink
pub record Devices : Type 0 where
  pub source : SourceSeen
  pub sink : SinkSeen

-- the text is what the source had left, if the source shows it
abbrev pub WasLeft : Devices → List ℕ → Type 0
WasLeft old text = IfSome old.source.left (λ left. left ≡ text)

-- the source was read to its end
abbrev pub IsReadOut : Option (List ℕ) → Option (List ℕ) → Type 0
IsReadOut None rest = rest ≡ None
IsReadOut (Some text) rest = rest ≡ Some []

-- the source was read to its end, or to the first byte that exceeds the limit of a text
abbrev pub IsReadUp : Option (List ℕ) → Option (List ℕ) → Type 0
IsReadUp left rest = IsReadOut left rest
    ⊎ ((bytes : List ℕ) × (length bytes ≡ MAX_TEXT + 1) × Consumes left bytes rest)

-- the most bytes that a command reads: of a document, none, or else of a network text
abbrev pub most_read : Command → ℕ
most_read Check = MAX_DOCUMENT + MAX_AHEAD
most_read (Sample number budget) = 0
most_read (Verify part) = MAX_DOCUMENT + MAX_AHEAD
most_read command = MAX_TEXT + 1

-- the source was read as far as a document goes until its first fault shows
abbrev pub IsReadToFault : Option (List ℕ) → Option (List ℕ) → Type 0
IsReadToFault left rest = (bytes : List ℕ) × EndAtFault bytes × Consumes left bytes rest

-- the source was read as far as a document of the part goes until its first fault shows: but for the
-- bytes of one pull, the next of its lines was awaited
abbrev pub IsReadToPartFault : PartName → Option (List ℕ) → Option (List ℕ) → Type 0
IsReadToPartFault part left rest =
    (bytes : List ℕ) × AwaitedIn (course_of (subject_of part)) bytes × Consumes left bytes rest

-- how far the source was read, by the status that the run ends with: to its end, as far as a text
-- goes, or as far as a document goes until its first fault shows
abbrev pub IsReadFor : Status → Option (List ℕ) → Option (List ℕ) → Type 0
IsReadFor Refused left rest = IsReadUp left rest
IsReadFor Rejected left rest = IsReadToFault left rest
IsReadFor status left rest = IsReadOut left rest

-- how far a command read the source, by the status that the run ends with: `sample` not at all
abbrev pub IsReadBy : Command → Status → Option (List ℕ) → Option (List ℕ) → Type 0
IsReadBy (Sample number budget) status left rest = rest ≡ left
IsReadBy (Verify part) Rejected left rest = IsReadToPartFault part left rest
IsReadBy command status left rest = IsReadFor status left rest

-- no more was read than the command reads that the words say, so nothing if they say none
abbrev pub IsReadWithin : List (List ℕ) → Option (List ℕ) → Option (List ℕ) → Type 0
IsReadWithin words left rest = ((command : Command) × IsCommand words command
    × ConsumesUpTo (most_read command) left rest)
    ⊎ (rest ≡ left)

-- ---- how a run ends, by its status

-- the command read the source for this status, and what it writes for its text was written
pub record EndsWritten (status : Status) (words : List (List ℕ)) (old new : Devices) : Type 0 where
  pub command : Command
  pub said : IsCommand words command
  pub read : IsReadBy command status old.source.left new.source.left
  pub within : IsReadWithin words old.source.left new.source.left
  pub source : new.source.faults ≡ old.source.faults
  pub text : List ℕ
  pub left : WasLeft old text
  pub out : List ℕ
  pub says : IsOutput command status text out
  pub sink : WroteAll out old.sink new.sink

-- the words are no command, nothing was read, and the usage line was written
pub record EndsUsage (words : List (List ℕ)) (old new : Devices) : Type 0 where
  pub command : SayACommand words → ⊥
  pub source : new.source ≡ old.source
  pub sink : WroteAll usage_line old.sink new.sink

-- the source's count of faults rose, and the sink is as before; what `check` read leaves open whether
-- and where there is a fault, and after what `verify` read a line of the document was awaited
pub record EndsReadFault (words : List (List ℕ)) (old new : Devices) : Type 0 where
  pub command : SayACommand words
  pub within : IsReadWithin words old.source.left new.source.left
  pub source : Rose old.source.faults new.source.faults
  pub later : old.source.faults ≤ new.source.faults
  pub undecided : IsCommand words Check → PullsWhileOpen old.source new.source
  pub awaited : (part : PartName) → IsCommand words (Verify part)
      → PullsAwaited (course_of (subject_of part)) old.source new.source
  pub sink : new.sink ≡ old.sink

-- the source was read for what the command writes for its text, or the words are no command and
-- this is the usage line
abbrev pub IsReadForOutput : List (List ℕ) → Devices → Devices → (text out : List ℕ) → Type 0
IsReadForOutput words old new text out = ((command : Command) × (status : Status)
    × IsCommand words command × IsReadBy command status old.source.left new.source.left
    × IsOutput command status text out)
    ⊎ ((SayACommand words → ⊥) × (new.source ≡ old.source) × (out ≡ usage_line))

-- the sink's count of faults rose, and a prefix of a text that may be written was written
pub record EndsWriteFault (words : List (List ℕ)) (old new : Devices) : Type 0 where
  pub within : IsReadWithin words old.source.left new.source.left
  pub source : new.source.faults ≡ old.source.faults
  pub text : List ℕ
  pub left : WasLeft old text
  pub out : List ℕ
  pub allowed : IsReadForOutput words old new text out
  pub sink : WrotePrefix out old.sink new.sink

-- nothing was written, because memory ran out
pub record EndsNoMemory (words : List (List ℕ)) (old new : Devices) : Type 0 where
  pub within : IsReadWithin words old.source.left new.source.left
  pub source : new.source.faults ≡ old.source.faults
  pub sink : new.sink ≡ old.sink

-- what a run did, by the status that it ended with
abbrev pub RunGives : Status → List (List ℕ) → Devices → Devices → Type 0
RunGives Usage words old new = EndsUsage words old new
RunGives ReadFault words old new = EndsReadFault words old new
RunGives WriteFault words old new = EndsWriteFault words old new
RunGives NoMemory words old new = EndsNoMemory words old new
RunGives status words old new = EndsWritten status words old new

-- ---- completeness

-- neither count of faults rose
pub record HasNoFault (old new : Devices) : Type 0 where
  pub source : Rose old.source.faults new.source.faults → ⊥
  pub sink : Rose old.sink.faults new.sink.faults → ⊥

-- the source shows a text with this property
abbrev pub Shows : (List ℕ → Type 0) → Devices → Type 0
Shows P old = (text : List ℕ) × (old.source.left ≡ Some text) × P text

-- the command reads a network text
abbrev pub ReadsNetwork : Command → Type 0
ReadsNetwork (Report budget) = Unit {0}
ReadsNetwork (Certify budget) = Unit {0}
ReadsNetwork (Prove part budget) = Unit {0}
ReadsNetwork command = ⊥

-- the words say a command that reads a network text, and the source shows one with this property
abbrev pub AskOfNetwork : (List ℕ → Type 0) → List (List ℕ) → Devices → Type 0
AskOfNetwork P words old = (command : Command) × ReadsNetwork command × IsCommand words command
    × Shows P old

-- the words say `check`, and the source shows a document with this property
abbrev pub AskOfDocument : (List ℕ → Type 0) → List (List ℕ) → Devices → Type 0
AskOfDocument P words old = IsCommand words Check × Shows P old

-- the words say `verify` with a part, and the source shows a text with this property for the part
abbrev pub AskOfPart : (PartName → List ℕ → Type 0) → List (List ℕ) → Devices → Type 0
AskOfPart P words old = (part : PartName) × IsCommand words (Verify part) × Shows (P part) old

-- the words say `sample`
abbrev pub AskOfSample : List (List ℕ) → Type 0
AskOfSample words = (number : ℕ) × (budget : ℕ) × IsCommand words (Sample number budget)

-- the text spells a network
abbrev pub IsSpelled : List ℕ → Type 0
IsSpelled text = (net : Net) × Spells text net

-- the text has a fault
abbrev pub IsFaulty : List ℕ → Type 0
IsFaulty text = (line : ℕ) × (code : TextCode) × Fault text line code

-- the document has a fault
abbrev pub IsFaultyDocument : List ℕ → Type 0
IsFaultyDocument text = (line : ℕ) × (code : ℕ) × IsFaultOf text line code

-- if no device failed, a run answers what the words and the text ask for, or memory ran out
pub record IsComplete (status : Status) (words : List (List ℕ)) (old new : Devices) : Type 0 where
  pub spelled : HasNoFault old new → AskOfNetwork IsSpelled words old
      → (status ≡ Done) ⊎ (status ≡ OpenLeft) ⊎ (status ≡ NoMemory)
  pub refused : HasNoFault old new → AskOfNetwork IsFaulty words old
      → (status ≡ Refused) ⊎ (status ≡ NoMemory)
  pub accepted : HasNoFault old new → AskOfDocument IsGood words old
      → (status ≡ Done) ⊎ (status ≡ NoMemory)
  pub rejected : HasNoFault old new → AskOfDocument IsFaultyDocument words old
      → (status ≡ Rejected) ⊎ (status ≡ NoMemory)
  pub verified : HasNoFault old new → AskOfPart IsGoodOf words old
      → (status ≡ Done) ⊎ (status ≡ NoMemory)
  pub unverified : HasNoFault old new → AskOfPart IsFaultyOf words old
      → (status ≡ Rejected) ⊎ (status ≡ NoMemory)
  pub sampled : HasNoFault old new → AskOfSample words
      → (status ≡ Done) ⊎ (status ≡ OpenLeft) ⊎ (status ≡ NoMemory)
  pub usage : HasNoFault old new → (SayACommand words → ⊥)
      → (status ≡ Usage) ⊎ (status ≡ NoMemory)

-- ---- devices that don't fail

-- the source shows this text and its count of faults stays at 0, and the sink shows a room for
-- each text that may be written
pub record IsQuiet (words : List (List ℕ)) (old new : Devices) (text : List ℕ) : Type 0 where
  pub left : old.source.left ≡ Some text
  pub source : (old.source.faults ≡ 0) × (new.source.faults ≡ 0)
  pub room : ℕ
  pub shows : old.sink.room ≡ Some room
  pub fits : (out : List ℕ) → IsAllowed words text out → length out ≤ room
