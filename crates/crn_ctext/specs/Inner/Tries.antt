-- For the contracts of private functions alone.
-- What trying one form on a line gives, and several.
-- Source: this project's own. Shapes: forms count from 0.
use Rattle.std.specs.Prelude.{◌≡◌, ◌++◌, ℕ, ℤ, Option, Some, None, Result, Ok, Err, List}
use Rattle.std.specs.Borrow.{Bor}
use Rattle.crn_vec.specs.Lists.{IsIn}
use Rattle.crn_ctext.specs.Records.{Record, Form, Field, Says, BeginsWith, IsShaped, Fits, Takes, AreNarrow, AreOf, kind_of}
use Rattle.crn_ctext.specs.Expect.{IsReadAs, forms_of}
use Rattle.crn_ctext.specs.Inner.Line.{SaysNumbers, IsTail}
use Rattle.crn_ctext.specs.Inner.Forms.{tag}
use Rattle.crn_ctext.specs.declared.expect.Expect.{Expect}
use Rattle.crn_ctext.specs.declared.word.Word.{Word}
use Rattle.crn_ctext.specs.declared.record_shape.Fit.{Fit}
use Rattle.crn_ctext.specs.declared.record_shape.Fit.TheVariants as fit
use Rattle.crn_ctext.specs.declared.record_try.Tried.{Tried}
use Rattle.crn_ctext.specs.declared.record_try.Tried.TheVariants as tried

-- the bytes after these, if the others begin with them and end there or go on with a space
abbrev pub IsAfter : (bytes first : List ℕ) → Option (Bor (List ℕ)) → Type 0
IsAfter bytes first None = (rest : List ℕ) → IsTail rest → bytes ≡ first ++ rest → ⊥
IsAfter bytes first (Some rest) = (bytes ≡ first ++ rest.now) × IsTail rest.now

-- the fields with numbers of a certificate for free ones
abbrev pub FitFields : List Field → List ℤ → Type 0
FitFields fields zs = AreOf (λ field part. Takes field part × AreNarrow field part) fields zs

-- the bytes are these, and then numbers, each after a space
abbrev pub SaysAfter : (first bytes : List ℕ) → List ℤ → Type 0
SaysAfter first bytes zs = (rest : List ℕ) × (bytes ≡ first ++ rest) × SaysNumbers rest zs

-- What is said are numbers that fit the fields, and they were read after the tag; or but for free ones that are too great; or not.
abbrev pub IsFit : Fit → List Field → (place : ℕ) → (List ℤ → Type 0) → List ℤ → Type 0
IsFit fit.Misfit fields place Said read = (zs : List ℤ) → Said zs → AreOf Takes fields zs → ⊥
IsFit fit.TooWide fields place Said read =
    ((zs : List ℤ) × Said zs × AreOf Takes fields zs) × ((zs : List ℤ) → Said zs → FitFields fields zs → ⊥)
IsFit fit.Fits fields place Said read =
    (zs : List ℤ) × Said zs × AreOf Takes fields zs × FitFields fields zs × (read ≡ tag place ++ zs)

-- the line is no record of the form, whatever the size of its free numbers
abbrev pub IsNotShaped : List ℕ → Form → Type 0
IsNotShaped line form = (r : Record) → Says line r → IsShaped form r → ⊥

-- it is a record of the form, but for the size of its free numbers
abbrev pub IsSomeShaped : List ℕ → Form → Type 0
IsSomeShaped line form = (r : Record) × Says line r × IsShaped form r

-- it is no record of the form
abbrev pub IsNotFit : List ℕ → Form → Type 0
IsNotFit line form = (r : Record) → Says line r → Fits form r → ⊥

-- the line has another word than the form, or has its word and is no record of it, or one but for free numbers that are too great, or one
abbrev pub IsTried : Tried → (place : ℕ) → Form → List ℕ → List ℤ → Type 0
IsTried tried.OtherWord place form line read =
    ((word : List ℕ) → BeginsWith line word → kind_of form ≡ word → ⊥) × IsNotShaped line form
IsTried tried.Misfit place form line read = BeginsWith line (kind_of form) × IsNotShaped line form
IsTried tried.TooWide place form line read = BeginsWith line (kind_of form) × IsSomeShaped line form × IsNotFit line form
IsTried tried.Fits place form line read = BeginsWith line (kind_of form)
    × ((r : Record) × Says line r × IsShaped form r × Fits form r × (read ≡ tag place ++ r.numbers))

-- the outcome of trying some forms, of none of which the line is a record: no form has its word; or
-- some form has; or some form fits but for free numbers that are too great
abbrev pub AreTried : Tried → List Form → List ℕ → Type 0
AreTried tried.OtherWord forms line = (form : Form) → IsIn form forms
    → ((word : List ℕ) → BeginsWith line word → kind_of form ≡ word → ⊥) × IsNotShaped line form
AreTried tried.Misfit forms line = ((form : Form) × IsIn form forms × BeginsWith line (kind_of form))
    × ((form : Form) → IsIn form forms → IsNotShaped line form)
AreTried tried.TooWide forms line = ((form : Form) × IsIn form forms × BeginsWith line (kind_of form))
    × ((form : Form) × IsIn form forms × IsSomeShaped line form)
    × ((form : Form) → IsIn form forms → IsNotFit line form)
AreTried tried.Fits forms line = ⊥

-- the line is a record that is due, or all forms were tried
abbrev pub IsSought : Result Word Tried → Expect → List ℕ → List ℤ → Type 0
IsSought (Ok word) e line read = IsReadAs e line word read
IsSought (Err tried) e line read = AreTried tried (forms_of e) line

-- what is known of the forms that were tried, after one more
abbrev pub worst_of : Tried → Tried → Tried
worst_of so_far tried.TooWide = tried.TooWide
worst_of tried.TooWide tried.Misfit = tried.TooWide
worst_of tried.OtherWord tried.Misfit = tried.Misfit
worst_of tried.Misfit tried.Misfit = tried.Misfit
worst_of tried.Fits tried.Misfit = tried.Misfit
worst_of so_far tried.OtherWord = so_far
worst_of so_far tried.Fits = so_far
