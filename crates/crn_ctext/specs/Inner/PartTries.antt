-- For the contracts of private functions alone.
-- What trying the lines of a part that may stand next gives.
-- Source: this project's own.
use Rattle.std.specs.Prelude.{ℕ, ℤ, List, Result, Ok, Err}
use Rattle.crn_ctext.specs.PartLines.{IsPartReadAs, forms_in}
use Rattle.crn_ctext.specs.Inner.Tries.{AreTried}
use Rattle.crn_ctext.specs.declared.part.Field.{Field as Run}
use Rattle.crn_ctext.specs.declared.part.Choice.{Choice}
use Rattle.crn_ctext.specs.declared.record_try.Tried.{Tried}

-- the line is one that may stand next, or all were tried
abbrev pub IsPartSought : Result ℕ Tried → List (List ℕ) → List Choice → List Run → (line : List ℕ)
    → (read : List ℤ) → Type 0
IsPartSought (Ok place) words due runs line read =
    IsPartReadAs words (forms_in words due runs) line place read
IsPartSought (Err tried) words due runs line read = AreTried tried (forms_in words due runs) line
