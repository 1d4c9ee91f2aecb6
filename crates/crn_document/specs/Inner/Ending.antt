-- For the contracts of private functions alone. The end of a document.
-- Source: this project's own format. Shapes: lines of a document count from 1.
use Rattle.std.specs.Prelude.{ℕ, Bool, [], ◌∷◌}
use Rattle.crn_ctext.specs.Kinds.{end_form}
use Rattle.crn_ctext.specs.Course.{Course, ◌>>=◌}
use Rattle.crn_ctext.specs.Blocks.{ReadOf, asks}
use Rattle.crn_reading.specs.Ending.{ends_with}

-- the last line is due, after a tree or not, then nothing is left, and this was read
abbrev pub asks_end : (version line : ℕ) → (after : Bool) → ReadOf → Course ReadOf
asks_end version n after read =
    asks version n after (end_form ∷ []) >>= (λ last. ends_with read)
