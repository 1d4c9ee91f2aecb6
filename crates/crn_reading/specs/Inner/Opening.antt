-- For the contracts of private functions alone. What is said of the first lines of a document, and the
-- text that those of its network are.
-- Source: this project's own format.
use Rattle.std.specs.Prelude.{◌≡◌, ◌<◌, ◌⊎◌, ◌++◌, ℕ, Bool, true, false, List, [], ◌∷◌, length, Option, Some, None}
use Rattle.crn_io.specs.Lines.{IsLine}
use Rattle.crn_ctext.specs.Blocks.{ended}
use Rattle.crn_reading.specs.declared.opening.TheConstants.{NETWORK_LINE}
use Rattle.crn_reading.specs.Opening.{IsTitleOf, SaysCount}

-- the line is the title of this version, or of none
abbrev pub IsVersionOf : List ℕ → Option ℕ → Type 0
IsVersionOf line (Some version) = IsTitleOf line version
IsVersionOf line None = (version : ℕ) → IsTitleOf line version → ⊥

-- the line says this many reactions, or none
abbrev pub IsCountOf : List ℕ → Option ℕ → Type 0
IsCountOf line (Some count) = SaysCount line count
IsCountOf line None = (count : ℕ) → SaysCount line count → ⊥

-- a line that is longer than a line of a canonical text
abbrev pub IsLongLine : List ℕ → Type 0
IsLongLine line = IsLine line × (NETWORK_LINE < length line)

-- one of these lines is longer
abbrev pub HasLongLine : List (List ℕ) → Type 0
HasLongLine [] = ⊥
HasLongLine (line ∷ lines) = IsLongLine line ⊎ HasLongLine lines

-- a line is added to a text, unless it or a line before it is too long, as marks before and after it
-- say
abbrev pub IsAddedLine : Bool → Bool → List ℕ → List ℕ → List ℕ → Type 0
IsAddedLine was now old new line = (now ≡ true → (was ≡ true) ⊎ (NETWORK_LINE < length line))
    × (now ≡ false → (was ≡ false) × (new ≡ old ++ line ++ 10 ∷ []))

-- lines are added to a text, unless one of them or a line before them is too long, as these marks say
abbrev pub AreAdded : Bool → Bool → List ℕ → List ℕ → List (List ℕ) → Type 0
AreAdded was now old new lines = (now ≡ true → (was ≡ true) ⊎ HasLongLine lines)
    × (now ≡ false → (was ≡ false) × (new ≡ old ++ ended lines))
