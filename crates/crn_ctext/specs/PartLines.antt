-- Lines of a part that may stand next, as they are handed to their reader.
-- Source: this project's own format.
-- Shapes: words and runs count from 0.
use Rattle.std.specs.Prelude.{◌≡◌, ◌≤◌, ◌<◌, ◌+◌, ◌≤ℤ◌, ◌^◌, ℕ, ℤ, pos, unsigned_abs, true, false, if◌then◌else◌, List, length, map, take, drop, slice_index_or, []}
use Rattle.std.specs.Borrow.{Bor}
use Rattle.std.specs.List.{AllByRecursion}
use Rattle.crn_vec.specs.declared.limits.TheConstants.{WIDE_SOLUTION}
use Rattle.crn_io.specs.Lines.{Place}
use Rattle.crn_io.specs.declared.lines.TheConstants.{MAX_NUMBERS}
use Rattle.crn_ctext.specs.Records.{Record, Form, Field, Small, Free, Rising, IsWord, most_of}
use Rattle.crn_ctext.specs.Kinds.{record_form}
use Rattle.crn_ctext.specs.Course.{Gives, FailsFirst}
use Rattle.crn_ctext.specs.Blocks.{word_of}
use Rattle.crn_ctext.specs.Parts.{reads_part}
use Rattle.crn_ctext.specs.declared.part.Field.{Field as Run}
use Rattle.crn_ctext.specs.declared.part.Choice.{Choice}

-- the words of a table
abbrev pub texts_of : List (Bor (List ℕ)) → List (List ℕ)
texts_of words = map (λ w. w.now) words

-- the numbers of a run
abbrev pub field_of : Run → Field
field_of f = if f.free then Free f.count else (
    if f.ascending then Rising f.count (unsigned_abs f.greatest) else Small f.count f.least f.greatest)

-- It is not both free and ascending. If it is not free, its bounds are below those of free numbers; if
-- it ascends, they are 1 and a small number.
pub record IsRun (f : Run) : Type 0 where
  pub one : f.free ≡ true → f.ascending ≡ false
  pub bounds : f.free ≡ false
      → (unsigned_abs f.least < WIDE_SOLUTION) × (unsigned_abs f.greatest < WIDE_SOLUTION)
  pub rising : f.ascending ≡ true
      → (f.least ≡ pos 1) × (pos 0 ≤ℤ f.greatest) × (unsigned_abs f.greatest < 2 ^ 32)

-- the runs of a choice
abbrev pub runs_of : List Run → Choice → List Run
runs_of runs c = take c.count (drop c.first runs)

-- a choice's word is in the table, its runs are in the list, and they have no more numbers than a
-- line may have
pub record IsChoice (words : List (List ℕ)) (runs : List Run) (c : Choice) : Type 0 where
  pub word : c.word < length words
  pub within : c.first + c.count ≤ length runs
  pub few : most_of (map field_of (runs_of runs c)) ≤ MAX_NUMBERS

-- each word has no space, and each run and each choice is one
pub record AreChoices (words : List (List ℕ)) (due : List Choice) (runs : List Run) : Type 0 where
  pub plain : AllByRecursion IsWord words
  pub bounds : AllByRecursion IsRun runs
  pub each : AllByRecursion (IsChoice words runs) due

-- the form of a choice
abbrev pub form_in : List (List ℕ) → List Run → Choice → Form
form_in words runs c =
    record_form (slice_index_or words c.word []) (map field_of (runs_of runs c))

-- the forms of the choices
abbrev pub forms_in : List (List ℕ) → List Choice → List Run → List Form
forms_in words due runs = map (form_in words runs) due

-- all tests of the line hold, its word has this place, and its numbers were read
pub record IsPartReadAs (words : List (List ℕ)) (forms : List Form) (line : List ℕ) (place : ℕ)
    (read : List ℤ) : Type 0 where
  pub said : Record
  pub gives : (n : ℕ) (at : Place) → Gives (reads_part words n forms line) at said at
  pub inside : place < length words
  pub kind : word_of said ≡ slice_index_or words place []
  pub numbers : read ≡ said.numbers

-- the first test of the line that fails has this code
abbrev pub IsPartRefusedBy : List (List ℕ) → List Form → (line : List ℕ) → (code : ℕ) → Type 0
IsPartRefusedBy words forms line code =
    (n : ℕ) (at : Place) → FailsFirst (reads_part words n forms line) at n code
