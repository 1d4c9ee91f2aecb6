-- What one step of a reading did, by its answer and by the course of the document.
-- Source: this project's own. Shapes: lines of a document count from 1.
use Rattle.std.specs.Prelude.{◌≡◌, ◌≤◌, ◌<◌, ◌+◌, ◌⊎◌, max, ℕ, true, List, [], ◌++◌, length, Option, Result, Ok, Err}
use Rattle.crn_io.specs.Device.{SourceSeen, Rose}
use Rattle.crn_io.specs.Next.{KeptLines}
use Rattle.crn_io.specs.Pull.{Consumes}
use Rattle.crn_io.specs.declared.lines.TheConstants.{MAX_DOCUMENT, MAX_AHEAD, MAX_NUMBERS}
use Rattle.crn_ctext.specs.Course.{Course}
use Rattle.crn_ctext.specs.Steps.{StepGives, StepFails, StepAwaits}
use Rattle.crn_reading.specs.declared.reading.Reading.{Reading}
use Rattle.crn_reading.specs.declared.fault.CheckStop.{CheckStop}
use Rattle.crn_reading.specs.declared.fault.CheckStop.TheVariants.{Rejected, Failed, NoMemory}

-- another line may be asked for
pub record CanRead (at : Reading) : Type 0 where
  pub goes_on : at.lines.goes_on ≡ true
  pub taken : at.lines.taken < MAX_DOCUMENT
  pub ahead : length at.lines.ahead < MAX_AHEAD

-- nothing was read yet, and there is memory for the numbers of a line
pub record IsNew (at : Reading) : Type 0 where
  pub line : at.line ≡ 1
  pub taken : at.lines.taken ≡ 0
  pub ahead : at.lines.ahead ≡ []
  pub goes_on : at.lines.goes_on ≡ true
  pub room : MAX_NUMBERS ≤ at.numbers.spare + length at.numbers.list

-- the number of the next line is at most that of the bytes before it, or 1
abbrev pub IsCounted : Reading → Type 0
IsCounted at = at.line ≤ max 1 at.lines.taken

-- a version of documents
abbrev pub IsVersion : ℕ → Type 0
IsVersion version = (version ≡ 1) ⊎ (version ≡ 2)

-- After the first line of a document another line may be asked for, there are fewer lines than
-- bytes, and there is memory for the numbers of a line.
pub record GoesOn (at : Reading) : Type 0 where
  pub reads : CanRead at
  pub counted : at.line + 10 ≤ at.lines.taken
  pub version : IsVersion at.version
  pub room : MAX_NUMBERS ≤ at.numbers.spare + length at.numbers.list

-- some bytes were pulled, no more than one pull after the bound of documents
pub record StepStops (old : KeptLines) (left after : Option (List ℕ)) : Type 0 where
  pub pulled : List ℕ
  pub off : Consumes left pulled after
  pub bound : old.taken + length (old.ahead ++ pulled) ≤ MAX_DOCUMENT + MAX_AHEAD

-- the course fails first as the answer says; or the source failed while a line was awaited, or memory
-- ran out
abbrev pub StopIs : {A : Type 0} → Course A → CheckStop → Reading → SourceSeen → SourceSeen → Type 0
StopIs course (Rejected code line) old before now =
    StepFails course old.line old.lines before.left now.left line code
    × (now.faults ≡ before.faults)
StopIs course Failed old before now =
    StepAwaits course old.line old.lines before.left now.left
    × Rose before.faults now.faults × (before.faults ≤ now.faults)
StopIs course NoMemory old before now = StepStops old.lines before.left now.left
    × (now.faults ≡ before.faults)

-- the course gives what the answer says, or it says why not
abbrev pub StepIs : {A T : Type 0} → Course A → (T → A → Type 0) → Result T CheckStop → Reading
    → Reading → SourceSeen → SourceSeen → Type 0
StepIs {A} course Says (Ok t) old new before now =
    (y : A) × Says t y
    × StepGives course y old.line new.line old.lines new.lines before.left now.left
    × (now.faults ≡ before.faults)
StepIs course Says (Err stop) old new before now = StopIs course stop old before now
