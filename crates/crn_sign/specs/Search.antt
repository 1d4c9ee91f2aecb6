-- What a search over the prefixes of a sign problem ends with, and why it stops.
-- Source: this project's own. The parts of a prefix are linear systems that require a sign of each
-- coordinate, as in Minty (1974) and Rockafellar (1969).
-- Shapes: a prefix has a sign for each of the first choices; `a` has a number for each column of
-- part A's matrix, and `b` one for each column of part B's.
use Rattle.std.specs.Prelude.{◌≡◌, ◌≤◌, ℕ, ℤ, Bool, true, false, List, [], ◌∷◌, ◌++◌, length}
use Rattle.crn_vec.specs.declared.signs.Sign.{Sign}
use Rattle.crn_vec.specs.Elementary.{NamesWide}
use Rattle.crn_vec.specs.Problems.{Signed, IsFull}
use Rattle.crn_vec.specs.Visits.{IsVisitList, PassesBudget}
use Rattle.crn_cert.specs.Trees.{Plan, IsValid, AreNarrow, places}
use Rattle.crn_farkas.specs.Decision.{IsSmallSolution}
use Rattle.crn_sign.specs.declared.end.SearchEnd.{SearchEnd}
use Rattle.crn_sign.specs.declared.end.SearchEnd.TheVariants.{Found, Refuted, Infeasible, Spent}
use Rattle.crn_sign.specs.declared.fault.SearchStop.{SearchStop}
use Rattle.crn_sign.specs.declared.fault.SearchStop.TheVariants.{WideA, WideB, NoMemory}

-- a full feasible prefix, with solutions of its parts, whose coordinates are below the bound
pub record IsFeasibleBy (w : Signed) (q : List Sign) (a b : List ℤ) : Type 0 where
  pub full : IsFull w q
  pub opened : w.closed q ≡ false
  pub part_a : IsSmallSolution w.matrix_a (w.kinds_a q) a
  pub part_b : IsSmallSolution w.matrix_b (w.kinds_b q) b

-- a tree that is valid at a prefix, and whose multipliers are numbers of a certificate
pub record IsTreeAt (w : Signed) (p : List Sign) (tree : Plan) : Type 0 where
  pub valid : IsValid w p tree
  pub narrow : AreNarrow tree

-- the search ends with the first full feasible prefix and solutions of its parts, or with a valid
-- tree that has one node for each visit in their order, or because the visits exceed the budget
abbrev pub IsSearchEnd : Signed → ℕ → SearchEnd → Type 0
IsSearchEnd w budget (Found q a b) = IsFeasibleBy w q a.list b.list
    × (before : List (List Sign)) × IsVisitList w (before ++ q ∷ []) true
    × (length (before ++ q ∷ []) ≤ budget)
IsSearchEnd w budget (Refuted tree) = IsTreeAt w [] tree
    × IsVisitList w (places [] tree) false × (length (places [] tree) ≤ budget)
IsSearchEnd w budget Infeasible = ⊥
IsSearchEnd w budget Spent = PassesBudget w budget

-- how a search ended, without the tree
abbrev pub outcome_of : SearchEnd → SearchEnd
outcome_of (Found q a b) = Found q a b
outcome_of (Refuted tree) = Infeasible
outcome_of Infeasible = Infeasible
outcome_of Spent = Spent

-- an end of the search, or, if no tree is kept, what some end of it is without its tree
abbrev pub IsOutcome : Signed → ℕ → Bool → SearchEnd → Type 0
IsOutcome w budget true e = IsSearchEnd w budget e
IsOutcome w budget false e = (whole : SearchEnd) × (e ≡ outcome_of whole)
    × IsSearchEnd w budget whole

-- a wide vector of one part's matrix by name, or memory runs out
abbrev pub IsSearchStop : Signed → SearchStop → Type 0
IsSearchStop w (WideA index basis) = NamesWide w.matrix_a index basis.list
IsSearchStop w (WideB index basis is_first) = NamesWide w.matrix_b index basis.list
IsSearchStop w NoMemory = Unit {0}
