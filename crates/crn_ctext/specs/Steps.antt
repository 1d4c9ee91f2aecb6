-- What a step of a streaming reader does, by the course that it goes through: for the contracts of
-- the reader's functions.
-- Source: this project's own. If it is not known what a source has left, its bytes are those that
-- were consumed.
use Rattle.std.specs.Prelude.{◌≡◌, ◌≤◌, ◌⊎◌, ◌+◌, ℕ, List, [], ◌++◌, length, Option, Some, None}
use Rattle.crn_io.specs.Pull.{Consumes}
use Rattle.crn_io.specs.Lines.{Place, IsBegun, IsLineAt, HasMore}
use Rattle.crn_io.specs.Next.{KeptLines, place}
use Rattle.crn_io.specs.declared.lines.TheConstants.{MAX_AHEAD, MAX_DOCUMENT}
use Rattle.crn_ctext.specs.Course.{Course, Give, Line, Test, End, Gives, FailsFirst}

-- all before some line that is due is as it should be, and what is left may be its beginning
unfoldable pub Awaits : {A : Type 0} → Course A → Place → Type 0
Awaits (Give x) at = ⊥
Awaits (Line node next) at = IsBegun at.before at.left
    ⊎ ((line : List ℕ) × (after : Place) × IsLineAt at line after × Awaits (next line) after)
Awaits (Test n c X P next) at = (x : X) × P x × Awaits (next x) at
Awaits (End next) at = IsBegun at.before at.left ⊎ ((HasMore at → ⊥) × Awaits next at)

-- this place, with these bytes left
abbrev pub cut : Place → List ℕ → Place
cut at bytes = record { line = at.line; before = at.before; left = bytes }

-- these bytes are what a source has left, if that is known, and else there are none
abbrev pub IsRest : Option (List ℕ) → List ℕ → Type 0
IsRest None rest = rest ≡ []
IsRest (Some left) rest = left ≡ rest

-- some bytes of the source were consumed, and whatever follows them, the course gives this
pub record StepGives {A : Type 0} (course : Course A) (y : A) (n m : ℕ) (old new : KeptLines)
    (left after : Option (List ℕ)) : Type 0 where
  pub pulled : List ℕ
  pub off : Consumes left pulled after
  pub gives : (rest : List ℕ) → Gives course (place n old (pulled ++ rest)) y (place m new rest)

-- some bytes of the source were consumed, and with them and what is left the course fails first here
pub record StepFails {A : Type 0} (course : Course A) (n : ℕ) (old : KeptLines)
    (left after : Option (List ℕ)) (line code : ℕ) : Type 0 where
  pub pulled : List ℕ
  pub off : Consumes left pulled after
  pub bound : old.taken + length (old.ahead ++ pulled) ≤ MAX_DOCUMENT + MAX_AHEAD
  pub fails : (rest : List ℕ) → IsRest after rest
      → FailsFirst course (place n old (pulled ++ rest)) line code
  -- without the bytes of one pull, and so of the last, a line was awaited
  pub awaits : (begun last : List ℕ) → old.ahead ++ pulled ≡ begun ++ last
      → MAX_AHEAD ≤ length last → Awaits course (cut (place n old pulled) begun)

-- some bytes of the source were consumed, and of a line that is due these are the beginning
pub record StepAwaits {A : Type 0} (course : Course A) (n : ℕ) (old : KeptLines)
    (left after : Option (List ℕ)) : Type 0 where
  pub pulled : List ℕ
  pub off : Consumes left pulled after
  pub bound : old.taken + length (old.ahead ++ pulled) ≤ MAX_DOCUMENT + MAX_AHEAD
  pub awaits : Awaits course (place n old pulled)

-- the same of a step at the end, after which nothing else follows: what is left is what the source
-- has left
pub record StepEnds {A : Type 0} (course : Course A) (y : A) (n m : ℕ) (old new : KeptLines)
    (left after : Option (List ℕ)) : Type 0 where
  pub pulled : List ℕ
  pub off : Consumes left pulled after
  pub bound : old.taken + length (old.ahead ++ pulled) ≤ MAX_DOCUMENT + MAX_AHEAD
  pub gives : (rest : List ℕ) → IsRest after rest
      → Gives course (place n old (pulled ++ rest)) y (place m new rest)
