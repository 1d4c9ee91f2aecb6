-- What lines make a course give, and that its tests are settled, for the proofs on courses.
-- Source: this project's own.
use Rattle.std.specs.Prelude.{◌≡◌, ◌⊎◌, List, [], ◌∷◌, ℕ}
use Rattle.crn_ctext.specs.Course.{Course, Give, Line, Test, End, IsCode}

-- these lines, and nothing else, make the course give this
unfoldable pub IsWrittenBy : {A : Type 0} → Course A → List (List ℕ) → A → Type 0
IsWrittenBy (Give x) ls y = (x ≡ y) × (ls ≡ [])
IsWrittenBy (Line node next) [] y = ⊥
IsWrittenBy (Line node next) (l ∷ ls) y = IsWrittenBy (next l) ls y
IsWrittenBy (Test n c X P next) ls y = (x : X) × P x × IsWrittenBy (next x) ls y
IsWrittenBy (End next) ls y = (ls ≡ []) × IsWrittenBy next ls y

-- each test is decided, no two values pass it, and it is reported as a kind of fault or by one of
-- these numbers of a part's own
unfoldable pub IsSettled : {A : Type 0} → (own : ℕ → Type 0) → Course A → Type 0
IsSettled own (Give x) = Unit {0}
IsSettled own (Line node next) = (line : List ℕ) → IsSettled own (next line)
IsSettled own (Test n c X P next) =
    (((x : X) × P x) ⊎ ((x : X) → P x → ⊥)) × ((x y : X) → P x → P y → x ≡ y)
    × ((x : X) → P x → IsSettled own (next x)) × IsCode own c
IsSettled own (End next) = IsSettled own next

-- no number
abbrev pub none_own : ℕ → Type 0
none_own number = ⊥
