-- For the contracts of private functions alone.
-- Lines that are remembered because they were read before. Shapes: places in a text count bytes from 0.
use Rattle.std.specs.Prelude.{◌≡◌, ℕ, None, List, [], ◌∷◌, take, drop}
use Rattle.std.specs.List.{AllByRecursion}
use Rattle.crn_vec.specs.Lists.{IsIn}
use Rattle.crn_text.specs.Faults.{own_fault}
use Rattle.crn_text.specs.declared.known.Place.{Place}

-- the bytes at a place
abbrev pub line_at : List ℕ → Place → List ℕ
line_at text p = take p.length (drop p.at text)

-- at each place is an empty line or one of those that were read
abbrev pub AreKnown : List ℕ → List (List ℕ) → List Place → Type 0
AreKnown text read places = AllByRecursion (λ p. IsIn (line_at text p) ([] ∷ read)) places

-- none of these lines has a fault of its own
abbrev pub AreSound : List (List ℕ) → Type 0
AreSound read = AllByRecursion (λ line. own_fault line ≡ None) read
