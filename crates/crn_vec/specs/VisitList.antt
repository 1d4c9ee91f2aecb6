-- Laws of visit lists.
use Rattle.std.specs.Prelude.{◌≡◌, ◌<◌, ◌≤◌, ◌⊎◌, ℕ, Bool, true, false, List, [], ◌∷◌, length}
use Rattle.crn_vec.specs.declared.signs.Sign.{Sign}
use Rattle.crn_vec.specs.declared.signs.Sign.TheVariants.{Zero, Plus, Minus}
use Rattle.crn_vec.specs.Lists.{IsIn}
use Rattle.crn_vec.specs.Problems.{Signed, IsFull, IsFeasible}
use Rattle.crn_vec.specs.Visits.{IsVisitList, IsReached, PassesBudget, most_visits}

-- two visit lists are equal
pub record AreOne (visits visits' : List (List Sign)) (found found' : Bool) : Type 0 where
  pub visits_are : visits ≡ visits'
  pub found_are : found ≡ found'

-- a problem has one visit list
abbrev pub VisitsAreOne : Type 0
VisitsAreOne = (w : Signed) (visits visits' : List (List Sign)) (found found' : Bool)
    → IsVisitList w visits found → IsVisitList w visits' found' → AreOne visits visits' found found'

-- a problem does not lack a visit list
abbrev pub NoProblemLacksVisits : Type 0
NoProblemLacksVisits = (w : Signed)
    → ((visits : List (List Sign)) (found : Bool) → IsVisitList w visits found → ⊥) → ⊥

-- more than n prefixes are visited if and only if the visit list is longer than n
pub record IsLonger : Type 0 where
  pub passes : (w : Signed) (visits : List (List Sign)) (found : Bool) (n : ℕ)
      → IsVisitList w visits found → n < length visits → PassesBudget w n
  pub longer : (w : Signed) (visits : List (List Sign)) (found : Bool) (n : ℕ)
      → IsVisitList w visits found → PassesBudget w n → n < length visits

-- visits and the length of their list agree
abbrev pub LongVisits : Type 0
LongVisits = IsLonger

-- the visits stay within the bound of the number of choices
pub record AreFew (w : Signed) : Type 0 where
  pub list : (visits : List (List Sign)) (found : Bool) → IsVisitList w visits found
      → length visits ≤ most_visits w.choices
  pub budget : (n : ℕ) → PassesBudget w n → n < most_visits w.choices

-- a budget of that bound is never spent
abbrev pub BudgetsNeverSpent : Type 0
BudgetsNeverSpent = (w : Signed) → AreFew w

-- all visited prefixes are reached; if no full feasible prefix ends the list, all reached ones are
-- visited
pub record AreReached (w : Signed) (visits : List (List Sign)) (found : Bool) : Type 0 where
  pub reached : (q : List Sign) → IsIn q visits → IsReached w q
  pub all : found ≡ false → (q : List Sign) → IsReached w q → IsIn q visits

-- visit lists hold reached prefixes
abbrev pub VisitsAreReached : Type 0
VisitsAreReached = (w : Signed) (visits : List (List Sign)) (found : Bool)
    → IsVisitList w visits found → AreReached w visits found

-- ---- the order of the visits, said of the list and not by a walk

-- the option s comes before t: zero, plus, minus
abbrev pub IsEarlier : Sign → Sign → Type 0
IsEarlier Zero Plus = Unit {0}
IsEarlier Zero Minus = Unit {0}
IsEarlier Plus Minus = Unit {0}
IsEarlier s t = ⊥

-- q continues p, or has a later option at the first place where they differ
abbrev pub IsBefore : List Sign → List Sign → Type 0
IsBefore [] [] = ⊥
IsBefore [] (t ∷ q) = Unit {0}
IsBefore (s ∷ p) [] = ⊥
IsBefore (s ∷ p) (t ∷ q) = IsEarlier s t ⊎ ((s ≡ t) × IsBefore p q)

-- each member is before all that follow it
abbrev pub AreInPreorder : List (List Sign) → Type 0
AreInPreorder [] = Unit {0}
AreInPreorder (p ∷ ps) = ((q : List Sign) → IsIn q ps → IsBefore p q) × AreInPreorder ps

-- a full feasible prefix
abbrev pub EndsVisits : Signed → List Sign → Type 0
EndsVisits w p = IsFull w p × IsFeasible w p

-- the visits are the reached prefixes in preorder, up to the first full feasible one
pub record IsPreorderOf (w : Signed) (visits : List (List Sign)) (found : Bool) : Type 0 where
  pub order : AreInPreorder visits
  pub reached : (q : List Sign) → IsIn q visits → IsReached w q
  -- each reached prefix is visited, or comes after a visited one that ends the list
  pub whole : (q : List Sign) → IsReached w q
      → IsIn q visits ⊎ ((r : List Sign) × IsIn r visits × EndsVisits w r × IsBefore r q)
  -- nothing visited comes after one that ends the list
  pub last : (q r : List Sign) → IsIn q visits → IsIn r visits → EndsVisits w r → IsBefore r q → ⊥
  pub found_is : found ≡ true → (r : List Sign) × IsIn r visits × EndsVisits w r
  pub ends : (r : List Sign) → IsIn r visits → EndsVisits w r → found ≡ true

-- a visit list is in preorder, and cut after the first full feasible prefix
abbrev pub VisitsArePreorder : Type 0
VisitsArePreorder = (w : Signed) (visits : List (List Sign)) (found : Bool)
    → IsVisitList w visits found → IsPreorderOf w visits found
