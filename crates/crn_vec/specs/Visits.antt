-- The visit list of a sign problem: the prefixes that a search has to look at, whatever decides
-- their systems.
-- Source: this project's own.
-- Shapes: `due` lists prefixes that are still to be visited, each with all below it before the next
-- one.
use Rattle.std.specs.Prelude.{◌+◌, ◌/◌, ◌^◌, ℕ, zero, suc, Bool, true, false, List, [], ◌∷◌, ◌++◌}
use Rattle.crn_vec.specs.declared.signs.Sign.{Sign}
use Rattle.crn_vec.specs.Lists.{IsIn}
use Rattle.crn_vec.specs.Problems.{Signed, IsFull, IsFeasible, children}

-- the prefixes visited from those that are due, in preorder, and whether a full feasible prefix
-- ends the list
pub data Visits (w : Signed) : List (List Sign) → List (List Sign) → Bool → Type 0 where
  -- nothing is due
  over : Visits w [] [] false
  -- a prefix that is not feasible has nothing below it
  fallen : {p : List Sign} {due visits : List (List Sign)} {found : Bool} → (IsFeasible w p → ⊥)
      → Visits w due visits found → Visits w (p ∷ due) (p ∷ visits) found
  -- a full feasible prefix ends the list
  ended : {p : List Sign} {due : List (List Sign)} → IsFeasible w p → IsFull w p
      → Visits w (p ∷ due) (p ∷ []) true
  -- below any other feasible prefix its children are visited
  opened : {p : List Sign} {due visits : List (List Sign)} {found : Bool} → IsFeasible w p
      → (IsFull w p → ⊥) → Visits w (children p ++ due) visits found
      → Visits w (p ∷ due) (p ∷ visits) found

-- more than n prefixes are visited from those that are due
pub data Passes (w : Signed) : List (List Sign) → ℕ → Type 0 where
  begun : {p : List Sign} {rest : List (List Sign)} → Passes w (p ∷ rest) 0
  past : {p : List Sign} {rest : List (List Sign)} {n : ℕ} → (IsFeasible w p → ⊥) → Passes w rest n
      → Passes w (p ∷ rest) (suc n)
  below : {p : List Sign} {rest : List (List Sign)} {n : ℕ} → IsFeasible w p → (IsFull w p → ⊥)
      → Passes w (children p ++ rest) n → Passes w (p ∷ rest) (suc n)

-- the empty prefix, from which all visits begin
abbrev pub root : List (List Sign)
root = [] ∷ []

-- the visit list of the problem
abbrev pub IsVisitList : Signed → List (List Sign) → Bool → Type 0
IsVisitList w visits found = Visits w root visits found

-- more than `budget` prefixes are visited
abbrev pub PassesBudget : Signed → ℕ → Type 0
PassesBudget w budget = Passes w root budget

-- the prefixes that an unbounded search comes to: the empty one, and the children of those that are
-- feasible
pub data IsReached (w : Signed) : List Sign → Type 0 where
  first : IsReached w []
  child : {p : List Sign} (q : List Sign) → IsReached w p → IsFeasible w p → (IsFull w p → ⊥)
      → IsIn q (children p) → IsReached w q

-- a bound on the visits by the number of choices: of two mirrored prefixes one is visited
abbrev pub most_visits : ℕ → ℕ
most_visits zero = 1
most_visits (suc k) = most_visits k + (3 ^ (suc k) + 1) / 2
