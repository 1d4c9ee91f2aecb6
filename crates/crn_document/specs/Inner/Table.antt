-- For the contracts of private functions alone. The shared lists of a document.
-- Source: this project's own format. Shapes: lines of a document count from 1.
use Rattle.std.specs.Prelude.{◌≡◌, ◌≤◌, ◌+◌, ◌++◌, ℕ, ℤ, pos, List, [], ◌∷◌, length}
use Rattle.crn_io.specs.declared.lines.TheConstants.{MAX_SHARED}
use Rattle.crn_ctext.specs.Records.{Record}
use Rattle.crn_ctext.specs.Blocks.{lists_of}
use Rattle.crn_ctext.specs.Meaning.{lists}
use Rattle.crn_reading.specs.declared.reading.Reading.{Reading}

-- one number of shared lists
abbrev pub IsCount : List ℤ → Type 0
IsCount numbers = (n : ℕ) × (numbers ≡ pos n ∷ []) × (n ≤ MAX_SHARED)

-- the next line is after these records
abbrev pub MovesBy : Reading → Reading → List Record → Type 0
MovesBy old new rs = new.line ≡ old.line + length rs

-- the next line is after these records, and their numbers were added to these lists
abbrev pub AreListed : Reading → Reading → (before after : List (List ℤ)) → List Record → Type 0
AreListed old new before after rs = MovesBy old new rs × (after ≡ before ++ lists rs)

-- the next line is after these records, of which all but the first are these lists
abbrev pub IsTable : Reading → Reading → List (List ℤ) → List Record → Type 0
IsTable old new table rs = MovesBy old new rs × (table ≡ lists_of rs)
