-- For the contracts of private functions alone. Records whose forms depend on no network.
-- Source: this project's own format.
use Rattle.std.specs.Prelude.{◌≡◌, ℕ, ℤ, List}
use Rattle.crn_ctext.specs.Records.{Record, Form, Fits}
use Rattle.crn_ctext.specs.Kinds.{end_form, table_form, vector_form}
use Rattle.crn_ctext.specs.declared.expect.Due.{Due}
use Rattle.crn_ctext.specs.declared.expect.Due.TheVariants as due
use Rattle.crn_document.specs.declared.plain.Plain.{Plain}
use Rattle.crn_document.specs.declared.plain.Plain.TheVariants.{Finish, Table, Vector}

-- what is due if the record of this kind is
abbrev pub due_of : Plain → Due
due_of Finish = due.Finish
due_of Table = due.Table
due_of Vector = due.Vector

-- the form of this record
abbrev pub plain_form : Plain → Form
plain_form Finish = end_form
plain_form Table = table_form
plain_form Vector = vector_form

-- documents of this version may have the record
abbrev pub MayBeIn : Plain → (version : ℕ) → Type 0
MayBeIn Finish version = Unit {0}
MayBeIn other version = version ≡ 2

-- the record has the form of this kind, and these are its numbers
abbrev pub IsPlain : Plain → List ℤ → Record → Type 0
IsPlain plain read r = Fits (plain_form plain) r × (read ≡ r.numbers)
