-- What a call for the next line of a source gives, by the bytes that it pulled, and what this means for a document.
-- Source: this project's own. Shapes: a line is the bytes before its LF; bytes of lines are counted with their LFs.
use Rattle.std.specs.Prelude.{◌≡◌, ◌≤◌, ◌<◌, ◌+◌, ℕ, List, [], ◌∷◌, ◌++◌, length, take, Bool, true, Option}
use Rattle.crn_io.specs.declared.next.Next.{Next}
use Rattle.crn_io.specs.declared.next.Next.TheVariants.{Line, Last, End, LineTooLong, DocumentTooLong, Failed}
use Rattle.crn_io.specs.declared.lines.TheConstants.{MAX_LINE, MAX_AHEAD, MAX_DOCUMENT}
use Rattle.crn_io.specs.Device.{SourceSeen, Rose}
use Rattle.crn_io.specs.Lines.{IsLine, Place, IsLineAt, ExceedsDocument, ExceedsLine, BreaksLine, IsBegun, LacksLine, HasMore, early}
use Rattle.crn_io.specs.Pull.{Consumes, HasNoneLeft}

-- what contracts see of the lines of a source
pub record KeptLines : Type 0 where
  -- the bytes that were pulled and come after the last line
  pub ahead : List ℕ
  -- how many bytes the lines so far have
  pub taken : ℕ
  -- the last line
  pub line : List ℕ
  -- another line may be asked for
  pub goes_on : Bool

-- What the next line is, after lines of this many bytes: by its first bytes, of which the answer was found, and by what the
-- source has left after them.
abbrev pub NextIs : Next → ℕ → List ℕ → Option (List ℕ) → KeptLines → Type 0
-- the line and its LF, and the rest of the bytes is ahead
NextIs Line taken bytes after new = (bytes ≡ new.line ++ 10 ∷ new.ahead) × IsLine new.line
    × (length new.line ≤ MAX_LINE)
    × (new.taken ≡ taken + length new.line + 1) × (new.taken < MAX_DOCUMENT)
    × (length new.ahead < MAX_AHEAD) × (new.goes_on ≡ true)
-- bytes with no LF, and none after them
NextIs Last taken bytes after new = (bytes ≡ new.line) × (1 ≤ length new.line) × IsLine new.line
    × (length new.line ≤ MAX_LINE) × (taken + length new.line < MAX_DOCUMENT) × HasNoneLeft after
-- no bytes
NextIs End taken bytes after new = (bytes ≡ []) × HasNoneLeft after
-- no LF among one byte more than the longest line has, and all of these before the bound of documents
NextIs LineTooLong taken bytes after new = (MAX_LINE < length bytes)
    × IsLine (take (MAX_LINE + 1) bytes) × (taken + MAX_LINE + 1 < MAX_DOCUMENT)
-- the byte numbered by the bound is one of the first n + 1, and no LF comes before the last of these
NextIs DocumentTooLong taken bytes after new = (n : ℕ) × (n ≤ MAX_LINE) × (n < length bytes)
    × IsLine (take n bytes) × (MAX_DOCUMENT ≤ taken + n + 1)
-- the bytes may be the beginning of a line
NextIs Failed taken bytes after new = IsBegun taken bytes

-- the count of faults rose if the answer is that the source failed, and else it is as before
abbrev pub CountsFault : Next → ℕ → ℕ → Type 0
CountsFault Failed before now = Rose before now × (before ≤ now)
CountsFault answer before now = now ≡ before

-- but for those of one pull at most, these bytes may be the beginning of a line
abbrev pub AreAsked : ℕ → List ℕ → Type 0
AreAsked taken bytes = (begun last : List ℕ) × (bytes ≡ begun ++ last) × IsBegun taken begun
    × (length last ≤ MAX_AHEAD)

-- Some bytes were consumed, no more than one pull after the bound of documents. After those that were ahead they give
-- the answer, and but for the bytes of one pull they did not.
abbrev pub NextGives : Next → KeptLines → KeptLines → SourceSeen → SourceSeen → Type 0
NextGives answer old new before now = (pulled : List ℕ) × Consumes before.left pulled now.left
    × NextIs answer old.taken (old.ahead ++ pulled) now.left new
    × CountsFault answer before.faults now.faults
    × (old.taken + length (old.ahead ++ pulled) ≤ MAX_DOCUMENT + MAX_AHEAD)
    × AreAsked old.taken (old.ahead ++ pulled)

-- the place of the line of this number: what is left are the bytes ahead and then those that the source has left
abbrev pub place : ℕ → KeptLines → List ℕ → Place
place n lines left = record { line = n; before = lines.taken; left = lines.ahead ++ left }

-- the code of an answer that gives no line that ended by LF, if the last test of a line has this code
abbrev pub code_of : ℕ → Next → ℕ
code_of last DocumentTooLong = 29
code_of last LineTooLong = 30
code_of last answer = last

-- If a line is due, the answer gives the line that is there, or the first test of a line that fails there has the
-- code of the answer.
abbrev pub DueIs : Next → (node : Bool) → (at after : Place) → List ℕ → Type 0
DueIs Line node at after line = IsLineAt at line after
DueIs Failed node at after line = Unit {0}
DueIs answer node at after line = BreaksLine at (early node) (LacksLine at) (code_of (early node) answer)

-- After the last line, the answer is that nothing is left, and nothing is left; or the first test that fails there has
-- the code of the answer.
abbrev pub EndIs : Next → Place → Type 0
EndIs End at = HasMore at → ⊥
EndIs Failed at = Unit {0}
EndIs answer at = BreaksLine at 28 (HasMore at) (code_of 28 answer)

-- What makes a call for the line that begins here give this answer. Nothing here makes the source fail.
abbrev pub IsCause : Next → Place → Type 0
IsCause Line at = (line : List ℕ) × (after : Place) × IsLineAt at line after
IsCause Last at = (ExceedsDocument at → ⊥) × (ExceedsLine at → ⊥) × LacksLine at × HasMore at
IsCause End at = at.left ≡ []
IsCause LineTooLong at = (ExceedsDocument at → ⊥) × ExceedsLine at
IsCause DocumentTooLong at = ExceedsDocument at
IsCause Failed at = ⊥
