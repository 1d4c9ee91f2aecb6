-- The bytes that were read of a document, and what reading one by a course answers.
-- Source: this project's own. Shapes: lines count from 1.
use Rattle.std.specs.Prelude.{◌≡◌, ◌≤◌, ◌+◌, ◌⊎◌, ◌++◌, ℕ, List, length, Option, Some, None, Result, Ok, Err}
use Rattle.crn_io.specs.Device.{SourceSeen, Rose}
use Rattle.crn_io.specs.Lines.{Place, beginning}
use Rattle.crn_io.specs.Pull.{Consumes, HasNoneLeft}
use Rattle.crn_io.specs.Read.{ConsumesUpTo}
use Rattle.crn_io.specs.declared.lines.TheConstants.{MAX_DOCUMENT, MAX_AHEAD}
use Rattle.crn_ctext.specs.Course.{Course, Gives, FailsFirst}
use Rattle.crn_ctext.specs.Steps.{Awaits}
use Rattle.crn_reading.specs.declared.fault.CheckStop.{CheckStop}
use Rattle.crn_reading.specs.declared.fault.CheckStop.TheVariants.{Rejected, Failed, NoMemory}

-- the bytes that a document is: those that the source had left, if it shows them, and else those
-- that were pulled
abbrev pub IsTextOf : Option (List ℕ) → List ℕ → List ℕ → Type 0
IsTextOf None pulled text = text ≡ pulled
IsTextOf (Some left) pulled text = text ≡ left

-- bytes were pulled, no more than one pull after the bound of documents, and this is the text of
-- the document
pub record IsRead (text : List ℕ) (old new : SourceSeen) : Type 0 where
  pub pulled : List ℕ
  pub consumed : Consumes old.left pulled new.left
  pub bound : length pulled ≤ MAX_DOCUMENT + MAX_AHEAD
  pub is : IsTextOf old.left pulled text
  pub faults : new.faults ≡ old.faults

-- no more was pulled than one pull after the bound of documents
abbrev pub PullsDocument : SourceSeen → SourceSeen → Type 0
PullsDocument old new = ConsumesUpTo (MAX_DOCUMENT + MAX_AHEAD) old.left new.left

-- but for the bytes of one pull at most, the course awaits what follows these
abbrev pub AwaitedIn : {A : Type 0} → Course A → List ℕ → Type 0
AwaitedIn course bytes = (begun last : List ℕ) × (bytes ≡ begun ++ last)
    × Awaits course (beginning begun) × (length last ≤ MAX_AHEAD)

-- the text was read to its end, and the course gives something with this property
pub record ReadsAll {A : Type 0} (course : Course A) (Says : A → Type 0) (old new : SourceSeen)
    : Type 0 where
  pub text : List ℕ
  pub read : IsRead text old new
  pub none : HasNoneLeft new.left
  pub given : A
  pub says : Says given
  pub after : Place
  pub gives : Gives course (beginning text) given after

-- the course fails first here in the text, and what was pulled ends there
pub record FailsReading {A : Type 0} (course : Course A) (code line : ℕ) (old new : SourceSeen)
    : Type 0 where
  pub text : List ℕ
  pub read : IsRead text old new
  pub fault : FailsFirst course (beginning text) line code
  pub near : AwaitedIn course read.pulled

-- the course awaits what follows the bytes that were pulled
abbrev pub PullsAwaited : {A : Type 0} → Course A → SourceSeen → SourceSeen → Type 0
PullsAwaited course old new =
    (bytes : List ℕ) × Consumes old.left bytes new.left × Awaits course (beginning bytes)

-- what reading a text by a course did, by its answer; memory may run out at any point
abbrev pub ReadingGives : {A T : Type 0} → Course A → (T → A → Type 0) → Result T CheckStop
    → SourceSeen → SourceSeen → Type 0
ReadingGives course Says (Ok t) old new = ReadsAll course (Says t) old new
ReadingGives course Says (Err (Rejected code line)) old new = FailsReading course code line old new
ReadingGives course Says (Err Failed) old new = PullsDocument old new × PullsAwaited course old new
    × Rose old.faults new.faults × (old.faults ≤ new.faults)
ReadingGives course Says (Err NoMemory) old new = PullsDocument old new
    × (new.faults ≡ old.faults)

-- the answer is one that says this
abbrev pub AnswersWith : {A T : Type 0} → (T → A → Type 0) → Result T CheckStop → A → Type 0
AnswersWith Says (Ok t) y = Says t y
AnswersWith Says (Err stop) y = ⊥

-- If the source shows its bytes and does not fail, the answer says what the course gives, or names
-- its first fault, or memory runs out.
pub record IsAnsweredBy {A T : Type 0} (course : Course A) (Says : T → A → Type 0)
    (result : Result T CheckStop) (old new : SourceSeen) : Type 0 where
  pub good : (text : List ℕ) (y : A) (after : Place) → old.left ≡ Some text
      → (Rose old.faults new.faults → ⊥)
      → Gives course (beginning text) y after
      → AnswersWith Says result y ⊎ (result ≡ Err NoMemory)
  pub fault : (text : List ℕ) (line code : ℕ) → old.left ≡ Some text
      → (Rose old.faults new.faults → ⊥)
      → FailsFirst course (beginning text) line code
      → (result ≡ Err (Rejected code line)) ⊎ (result ≡ Err NoMemory)
