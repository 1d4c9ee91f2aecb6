-- Lines of a document, and the place where a reading of it is.
-- Source: this project's own format. Shapes: a line is the bytes before its LF; lines and bytes of a document count from 1.
use Rattle.std.specs.Prelude.{◌≡◌, ◌≤◌, ◌<◌, ◌+◌, ◌==◌, ℕ, List, [], ◌∷◌, ◌++◌, length, take, Bool, false, if◌then◌else◌}
use Rattle.std.specs.List.{All}
use Rattle.crn_io.specs.declared.lines.TheConstants.{MAX_LINE, MAX_DOCUMENT}

-- none of these bytes is LF
abbrev pub IsLine : List ℕ → Type 0
IsLine bytes = All (λ b. (b == 10) ≡ false) bytes

-- where a reading is: at the line of this number, with this many bytes before it, and these left
pub record Place : Type 0 where
  pub line : ℕ
  pub before : ℕ
  pub left : List ℕ

-- the place at which a document begins
abbrev pub beginning : List ℕ → Place
beginning bytes = record { line = 1; before = 0; left = bytes }

-- this line begins here, ends by LF and is not too long, and the next place is after it
pub record IsLineAt (at : Place) (line : List ℕ) (after : Place) : Type 0 where
  pub left : at.left ≡ line ++ 10 ∷ after.left
  pub whole : IsLine line
  pub short : length line ≤ MAX_LINE
  pub next : after.line ≡ at.line + 1
  pub before : after.before ≡ at.before + length line + 1
  pub bound : after.before < MAX_DOCUMENT

-- The byte numbered by the bound of documents is in the line that begins here, its LF counted, and no later in it than
-- the LF of the longest line.
abbrev pub ExceedsDocument : Place → Type 0
ExceedsDocument at = (n : ℕ) × (n ≤ MAX_LINE) × (n < length at.left) × IsLine (take n at.left)
    × (at.before + n + 1 ≡ MAX_DOCUMENT)

-- the line that begins here has more bytes than a line may have
abbrev pub ExceedsLine : Place → Type 0
ExceedsLine at = (MAX_LINE < length at.left) × IsLine (take (MAX_LINE + 1) at.left)

-- nothing is left, or no LF ends the last bytes
abbrev pub LacksLine : Place → Type 0
LacksLine at = IsLine at.left

-- these bytes, after this many others, may be the beginning of a line: none is LF, and no bound is reached
abbrev pub IsBegun : (before : ℕ) → List ℕ → Type 0
IsBegun before bytes = IsLine bytes × (length bytes ≤ MAX_LINE)
    × (before + length bytes < MAX_DOCUMENT)

-- something is left
abbrev pub HasMore : Place → Type 0
HasMore at = at.left ≡ [] → ⊥

-- Of the three tests of any line the first that fails here has this code: 29 for the bound of documents, 30 for that of
-- lines, and then the last one.
pub data BreaksLine (at : Place) (last : ℕ) (Other : Type 0) : ℕ → Type 0 where
  document_too_long : ExceedsDocument at → BreaksLine at last Other 29
  line_too_long : (ExceedsDocument at → ⊥) → ExceedsLine at → BreaksLine at last Other 30
  otherwise : (ExceedsDocument at → ⊥) → (ExceedsLine at → ⊥) → Other → BreaksLine at last Other last

-- the code of a line that is missing: of a node of a tree, or of another line
abbrev pub early : Bool → ℕ
early node = if node then 43 else 27
