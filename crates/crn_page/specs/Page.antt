-- What the exported run did to the bytes that the host lent it.
-- Source: this project's own. Shapes: a command line, a text and a room are lists of bytes.
use Rattle.std.specs.Prelude.{◌≡◌, ◌⊎◌, ◌==◌, ℕ, List, [], ◌++◌, length, drop, Some}
use Rattle.std.specs.List.{slice_split}
use Rattle.std.specs.Str.{IsUtf8}
use Rattle.crn_io.specs.Device.{SinkSeen}
use Rattle.crn_run.specs.Run.{Devices, RunGives, IsComplete}
use Rattle.crn_run.specs.declared.status.Status.{Status}
use Rattle.crn_run.specs.declared.status.Status.TheVariants.{Done, OpenLeft, Refused, Rejected, Usage, ReadFault, WriteFault, NoMemory}

-- the words of a command line, the program's name first, with the byte 0 between each two
abbrev pub words_of : List ℕ → List (List ℕ)
words_of line = slice_split (λ byte. byte == 0) line

-- the number of a status, as the program ends with it
abbrev pub status_number : Status → ℕ
status_number Done = 0
status_number OpenLeft = 1
status_number Refused = 2
status_number Rejected = 3
status_number Usage = 4
status_number ReadFault = 5
status_number WriteFault = 6
status_number NoMemory = 7

-- a sink with this room that took nothing and has not failed
abbrev pub empty_sink : ℕ → SinkSeen
empty_sink room = record { took = Some []; room = Some room; faults = 0 }

-- a source that shows this text and has not failed, and such a sink
abbrev pub ready : List ℕ → ℕ → Devices
ready text room = record {
  source = record { left = Some text; faults = 0 };
  sink = empty_sink room;
}

-- a run of the program with these words over this text and into this room ended so, and wrote these bytes; no read failed
pub record Ran (status : Status) (words : List (List ℕ)) (text : List ℕ) (room : ℕ) (bytes : List ℕ) : Type 0 where
  pub new : Devices
  pub took : new.sink.took ≡ Some bytes
  pub quiet : new.source.faults ≡ 0
  pub gives : RunGives status words (ready text room) new
  pub complete : IsComplete status words (ready text room) new

-- the number is that of a run's status, and all that the run wrote stands at the head of the room; what is behind it is
-- as before
pub record HandsOut (number : ℕ) (line text before after : List ℕ) (count : ℕ) : Type 0 where
  pub status : Status
  pub is : number ≡ status_number status
  pub whole : status ≡ WriteFault → ⊥
  pub bytes : List ℕ
  pub ran : Ran status (words_of line) text (length before) bytes
  pub said : count ≡ length bytes
  pub out : after ≡ bytes ++ drop (length bytes) before

-- a run ended as WriteFault: what it had to write does not fit the room
pub record LacksRoom (line text : List ℕ) (room : ℕ) : Type 0 where
  pub status : Status
  pub is : status ≡ WriteFault
  pub bytes : List ℕ
  pub ran : Ran status (words_of line) text room bytes

-- why nothing is handed out, by the number that is answered: room lacked, memory ran out, or the words are not UTF-8
abbrev pub HasNothing : (number : ℕ) → (line text : List ℕ) → (room : ℕ) → Type 0
HasNothing number line text room = ((number ≡ 6) × LacksRoom line text room)
    ⊎ (number ≡ 7)
    ⊎ ((number ≡ 8) × (IsUtf8 line → ⊥))

-- what a run wrote was handed out; or nothing was, for a cause, and the room is as before
abbrev pub Ends : (number : ℕ) → (line text before after : List ℕ) → (count : ℕ) → Type 0
Ends number line text before after count = HandsOut number line text before after count
    ⊎ (HasNothing number line text (length before) × (after ≡ before) × (count ≡ 0))
