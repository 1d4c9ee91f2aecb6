-- For the contracts of private functions alone.
-- The forms that are due, one after another.
-- Source: this project's own. Shapes: forms count from 0, places of heads from 1; words after the first are each after a space.
use Rattle.std.specs.Prelude.{◌≡◌, ◌≤◌, ◌<◌, ◌+◌, ℕ, zero, suc, ℤ, pos, Option, Some, None, List, [], ◌∷◌, length, slice_index_or}
use Rattle.crn_ctext.specs.Records.{Form, Record, most_of}
use Rattle.crn_io.specs.declared.lines.TheConstants.{MAX_NUMBERS}
use Rattle.crn_ctext.specs.Blocks.{place_of}
use Rattle.crn_ctext.specs.Expect.{text_of, sizes_of, forms_of, tag_of}
use Rattle.crn_ctext.specs.declared.expect.Expect.{Expect}
use Rattle.crn_ctext.specs.Inner.Line.{spaced}
use Rattle.crn_ctext.specs.Inner.Shapes.{fields_of, HasBounds}
use Rattle.crn_ctext.specs.declared.record_form.Form.{Form as GivenForm}

-- the words after the first
abbrev pub later : List (List ℕ) → List (List ℕ)
later [] = []
later (w ∷ words) = words

-- what is put before the numbers
abbrev pub tag : ℕ → List ℤ
tag zero = []
tag (suc n) = pos (suc n) ∷ []

-- what is given is this form
pub record IsForm (f : GivenForm) (form : Form) : Type 0 where
  pub words : form.words ≡ text_of f.word ∷ later form.words
  pub others : f.words.now ≡ spaced (later form.words)
  pub fields : form.fields ≡ fields_of f.shape
  pub bounds : HasBounds f.shape
  pub few : length (tag f.place) + most_of (fields_of f.shape) ≤ MAX_NUMBERS

-- the form that stands for none
abbrev pub no_form : Form
no_form = record { place = 0; words = []; fields = [] }

-- the form of this number is given, or there is none
abbrev pub IsNth : List Form → ℕ → Option GivenForm → Type 0
IsNth forms i None = length forms ≤ i
IsNth forms i (Some f) = (i < length forms) × IsForm f (slice_index_or forms i no_form) × (f.place ≡ 0)

-- of these heads
abbrev pub IsNthHead : List Form → ℕ → Option GivenForm → Type 0
IsNthHead forms i None = length forms ≤ i
IsNthHead forms i (Some f) =
    (i < length forms) × IsForm f (slice_index_or forms i no_form) × (f.place ≡ place_of forms (slice_index_or forms i no_form).words) × (1 ≤ f.place)

-- of the forms that are due the one of this number is given, with what is put before its numbers, or there is none
abbrev pub IsNthDue : Expect → ℕ → Option GivenForm → Type 0
IsNthDue e i None = length (forms_of e) ≤ i
IsNthDue e i (Some f) = (i < length (forms_of e)) × IsForm f (slice_index_or (forms_of e) i no_form)
    × ((r : Record) → r.words ≡ (slice_index_or (forms_of e) i no_form).words → tag_of e.due (sizes_of e.sizes) r ≡ tag f.place)
