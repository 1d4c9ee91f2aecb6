-- Cut pairs: linked complexes such that every walk between them has a step between them; and sides
-- of cut pairs.
-- Source: Feinberg (1995), where the terminal strong classes of a regular network are trees. The
-- names are this project's own.
-- Shapes: reactions are pairs (reactant, product) of complexes; complexes and reactions count from
-- 0.
use Rattle.std.specs.Prelude.{◌≡◌, ◌<◌, ◌⊎◌, ◌↔◌, ℕ, ℤ, pos, List}
use Rattle.crn_vec.specs.Lists.{IsIn, IsAscending}
use Rattle.crn_vec.specs.Linkage.{IsLinked, SameClass}
use Rattle.crn_vec.specs.Vectors.{entry}
use Rattle.crn_vec.specs.Walks.{LeadsTo}
use Rattle.crn_vec.specs.Strong.{IsReaction, SameStrong, IsTerminal}

-- a step from y to z is one between a and b, in either direction
abbrev pub IsBetween : ℕ → ℕ → ℕ → ℕ → Type 0
IsBetween a b y z = ((y ≡ a) × (z ≡ b)) ⊎ ((y ≡ b) × (z ≡ a))

-- y and z are linked, and are not a and b
abbrev pub IsFreeStep : List (ℕ × ℕ) → ℕ → ℕ → ℕ → ℕ → Type 0
IsFreeStep reactions a b y z = IsLinked reactions y z × (IsBetween a b y z → ⊥)

-- c is on the side of b: it is joined to b by links without a step between a and b
abbrev pub IsOnSide : List (ℕ × ℕ) → ℕ → ℕ → ℕ → Type 0
IsOnSide reactions a b c = LeadsTo (IsFreeStep reactions a b) b c

-- a cut pair: a and b are linked, and every walk from a to b has a step between a and b
pub record IsCutPair (reactions : List (ℕ × ℕ)) (a b : ℕ) : Type 0 where
  pub linked : IsLinked reactions a b
  pub cut : LeadsTo (IsFreeStep reactions a b) a b → ⊥

-- a and b are linked, and both are in one terminal strong class
pub record IsTerminalPair (reactions : List (ℕ × ℕ)) (a b : ℕ) : Type 0 where
  pub linked : IsLinked reactions a b
  pub within : SameStrong reactions a b
  pub terminal : IsTerminal reactions a

-- reaction r joins a linked pair of a terminal class, and no earlier reaction joins the same two
pub record IsFirstOfPair (reactions : List (ℕ × ℕ)) (r : ℕ) : Type 0 where
  pub a : ℕ
  pub b : ℕ
  pub goes : IsReaction reactions r a b
  pub pair : IsTerminalPair reactions a b
  pub first : (q y z : ℕ) → q < r → IsReaction reactions q y z → IsBetween a b y z → ⊥

-- the linked pairs of terminal classes, each given by its least reaction, in ascending order
pub record ArePairs (reactions : List (ℕ × ℕ)) (pairs : List ℕ) : Type 0 where
  pub ascending : IsAscending pairs
  pub each : (r : ℕ) → IsIn r pairs ↔ IsFirstOfPair reactions r

-- marks of a side: 0 at a, 1 at b, equal at the two ends of every link that is not a step between a
-- and b, and 1 only in the linkage class of b
pub record IsMarking (reactions : List (ℕ × ℕ)) (a b : ℕ) (marks : List ℤ) : Type 0 where
  pub from : entry marks a ≡ pos 0
  pub to : entry marks b ≡ pos 1
  pub equal : (y z : ℕ) → IsLinked reactions y z
      → IsBetween a b y z ⊎ (entry marks y ≡ entry marks z)
  pub within : (c : ℕ) → entry marks c ≡ pos 1 → SameClass reactions b c

-- if there are such marks, the pair is a cut pair, and the marks are 1 if and only if the complex
-- is on the side
abbrev pub MarksAreSides : Type 0
MarksAreSides = (reactions : List (ℕ × ℕ)) (a b : ℕ) (marks : List ℤ) → IsLinked reactions a b
    → IsMarking reactions a b marks
    → IsCutPair reactions a b × ((c : ℕ) → IsOnSide reactions a b c ↔ (entry marks c ≡ pos 1))
