-- A record that is due, and what is said of it once it was read.
-- Source: this project's own format. Shapes: lines of a document count from 1.
use Rattle.std.specs.Prelude.{◌≡◌, ◌<◌, ◌++◌, ℕ, ℤ, List, [], length, slice_index_or, false, Result}
use Rattle.crn_ctext.specs.Records.{Record, Form}
use Rattle.crn_ctext.specs.Course.{Course, due, ◌>>=◌}
use Rattle.crn_ctext.specs.Blocks.{word_of}
use Rattle.crn_ctext.specs.Documents.{IsOneOf}
use Rattle.crn_ctext.specs.Expect.{forms_of, sizes_of, tag_of, tests_of}
use Rattle.crn_ctext.specs.declared.expect.Expect.{Expect}
use Rattle.crn_ctext.specs.Parts.{asks_part}
use Rattle.crn_io.specs.Device.{SourceSeen}
use Rattle.crn_reading.specs.Steps.{StepIs}
use Rattle.crn_reading.specs.declared.reading.Reading.{Reading}
use Rattle.crn_reading.specs.declared.fault.CheckStop.{CheckStop}

-- the record that is due at a line
abbrev pub asks_for : Expect → (line : ℕ) → Course Record
asks_for e n = due false >>= (λ line. tests_of e n line)

-- the record is one that was due, and these are its numbers, those of a head after the place of its
-- form
pub record IsSaid (e : Expect) (read : List ℤ) (r : Record) : Type 0 where
  pub form : IsOneOf (forms_of e) r
  pub numbers : read ≡ tag_of e.due (sizes_of e.sizes) r ++ r.numbers

-- the record is of one of these forms, its word has this place, and these are its numbers
pub record IsPartSaid (words : List (List ℕ)) (forms : List Form) (place : ℕ) (read : List ℤ)
    (r : Record) : Type 0 where
  pub form : IsOneOf forms r
  pub inside : place < length words
  pub kind : word_of r ≡ slice_index_or words place []
  pub numbers : read ≡ r.numbers

-- a line of one of these forms was read, the place of its word is answered, and its numbers are kept
abbrev pub ReadsPart : (words : List (List ℕ)) → List Form → Result ℕ CheckStop → Reading → Reading
    → SourceSeen → SourceSeen → Type 0
ReadsPart words forms result old new before now = StepIs (asks_part words old.line forms)
    (λ place r. IsPartSaid words forms place new.numbers.list r) result old new before now
