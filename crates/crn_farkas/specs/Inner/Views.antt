-- For the contracts of private functions alone. What is seen of a tableau for one coordinate g that has to be positive or negative, and how far it is settled.
-- Source: Minty (1974), on the two elementary vectors of which exactly one is found.
use Rattle.std.specs.Prelude.{List, length, pos, slice_index, ℕ, ℤ, ◌+◌, ◌<◌, ◌↔◌, ◌≡◌, ◌≢◌, ◌≤◌, ◌⊎◌}
use Rattle.crn_farkas.specs.declared.view.View.{View}
use Rattle.crn_farkas.specs.declared.view.View.TheVariants.{Column, Row}
use Rattle.crn_vec.specs.Elementary.{Exchanged, IsNamedColumn, IsNamedRow, width}
use Rattle.crn_vec.specs.Lists.{IsIn}
use Rattle.crn_vec.specs.Systems.{HasKind, MayTake, MayWeigh, kind_at}
use Rattle.crn_vec.specs.Vectors.{Mat, entry}
use Rattle.crn_vec.specs.declared.signs.Kind.{Kind}

-- the view shows a vector that is not zero at g
abbrev pub IsView : Mat → List ℕ → View → ℕ → Type 0
IsView a basis Row g = IsIn g basis → ⊥
IsView a basis (Column b) g = (y : List ℤ) × IsNamedColumn a basis b y × (entry y g ≢ pos 0)

-- a vector that the view shows, with the kind of g at g
abbrev pub IsSeen : Mat → List ℕ → View → ℕ → Kind → List ℤ → Type 0
IsSeen a basis Row g kind y = IsNamedRow a basis g y × HasKind kind (entry y g)
IsSeen a basis (Column b) g kind y = IsNamedColumn a basis b y × HasKind kind (entry y g)

-- the coordinate from whose sign the others of a vector that a view shows are read
abbrev pub lead_at : View → ℕ → ℕ
lead_at Row g = g
lead_at (Column b) g = b

-- what a vector may have at a coordinate of a kind, by the space that it is in
abbrev pub IsRight : View → Kind → ℤ → Type 0
IsRight Row kind x = MayWeigh kind x
IsRight (Column b) kind x = MayTake kind x

-- each vector seen is right at the coordinates whose level is below k
abbrev pub IsSettled : Mat → List ℕ → View → ℕ → List Kind → List ℕ → ℕ → Type 0
IsSettled a basis view g kinds level k = (y : List ℤ) → IsSeen a basis view g (kind_at kinds g) y
    → (c : ℕ) → c < width a → slice_index level c < k → IsRight view (kind_at kinds c) (entry y c)

-- each vector seen is right at every coordinate
abbrev pub IsRightEverywhere : Mat → List ℕ → View → ℕ → List Kind → Type 0
IsRightEverywhere a basis view g kinds = (y : List ℤ) → IsSeen a basis view g (kind_at kinds g) y
    → (c : ℕ) → c < width a → IsRight view (kind_at kinds c) (entry y c)

-- each of this many coordinates has a level of its own: its number, or that plus the count
pub record AreLevels (count : ℕ) (levels : List ℕ) : Type 0 where
  pub long : length levels ≡ count
  pub are : (c : ℕ) → c < count → (slice_index levels c ≡ c) ⊎ (slice_index levels c ≡ count + c)

-- each vector seen is right at the coordinates whose level is at least one and below another
abbrev pub IsRightBetween : Mat → List ℕ → View → ℕ → List Kind → List ℕ → ℕ → ℕ → Type 0
IsRightBetween a basis view g kinds level from end = (y : List ℤ) → IsSeen a basis view g (kind_at kinds g) y
    → (c : ℕ) → c < width a → from ≤ slice_index level c → slice_index level c < end → IsRight view (kind_at kinds c) (entry y c)

-- each vector seen is wrong at some coordinate of this level
pub record IsWrongHere (a : Mat) (basis : List ℕ) (view : View) (g : ℕ) (kinds : List Kind) (level : List ℕ) (here : ℕ) : Type 0 where
  pub c : ℕ
  pub inside : c < width a
  pub at : slice_index level c ≡ here
  pub wrong : (y : List ℤ) → IsSeen a basis view g (kind_at kinds g) y → IsRight view (kind_at kinds c) (entry y c) → ⊥

-- the coordinate is in the basis; a column that is looked at counts as left for g
abbrev pub IsViewed : List ℕ → View → ℕ → Type 0
IsViewed basis Row c = IsIn c basis
IsViewed basis (Column b) c = IsIn c basis × (c ≢ b)

-- two views have the same coordinates but for g and those whose level is below k
abbrev pub AgreeBeyond : List ℕ → ℕ → ℕ → List ℕ → View → List ℕ → View → Type 0
AgreeBeyond level g k basis view basis' view' = (c : ℕ) → c ≢ g → k ≤ slice_index level c → IsViewed basis view c ↔ IsViewed basis' view' c

-- the coordinate that was seen wrong in a view has crossed: a row loses it, a column gains it
abbrev pub HasCrossed : View → List ℕ → View → ℕ → Type 0
HasCrossed Row basis' view' c = IsViewed basis' view' c → ⊥
HasCrossed (Column b) basis' view' c = IsViewed basis' view' c

-- the basis after an exchange, or as before if the two coordinates are one
abbrev pub IsSwapped : List ℕ → ℕ → ℕ → List ℕ → Type 0
IsSwapped basis leave enter next = ((enter ≡ leave) × (next ≡ basis)) ⊎ ((enter ≢ leave) × Exchanged basis leave enter next)

-- each vector seen is right at the coordinates whose level is below j, and wrong at one of level j
pub record IsFirstWrong (a : Mat) (basis : List ℕ) (view : View) (g : ℕ) (kinds : List Kind) (level : List ℕ) (done k j : ℕ) : Type 0 where
  pub low : done ≤ j
  pub high : j < k
  pub settled : IsSettled a basis view g kinds level j
  pub here : IsWrongHere a basis view g kinds level j
