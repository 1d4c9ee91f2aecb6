-- A search that ends with a signal or a tree stays within the budget, and one that stops leaves the question open.
use Rattle.crn_shelf.proofs.Prelude.{◌≡◌, ℕ, ◌≤◌, List, [], ◌∷◌, ◌++◌, length, Bool, true, false, sym, subst, arith, ℤ, pos, negsuc, ints, Sign, KeptInts, Net, reaction_system, Shape, signals, IsShapeOf, IsVisitList, PassesBudget, root, longer_by, shapes_are_one, Answer, Verdict, Unknown, PassForSignals, IsOpen, Plan, places, Found, Refuted, SearchStop, WideA, WideB, NoMemory, EndsFor, IsFoundAnswer, IsStopAnswer, IsForNegative}

within : (net : Net) (g : List ℤ) (budget : ℕ) (s : Shape) (visits : List (List Sign)) (found : Bool) → IsShapeOf net g s → IsVisitList (signals s (reaction_system net)) visits found → length visits ≤ budget → PassForSignals net g budget → ⊥
within net g budget s visits found sh v few pass =
    let more : PassesBudget (signals s (reaction_system net)) budget = subst (λ (u : Shape). PassesBudget (signals u (reaction_system net)) budget) (shapes_are_one net g pass.0 s pass.1 sh) pass.2 in
    absurd (omega (arith, few, longer_by (signals s (reaction_system net)) root visits found budget v more))

pub found_within : (net : Net) (g : List ℤ) (budget : ℕ) (q : List Sign) (a b : KeptInts) → EndsFor net g budget (Found q a b) → PassForSignals net g budget → ⊥
found_within net g budget q a b e = within net g budget e.0 (e.2.1 ++ q ∷ []) true e.1 e.2.2 e.2.3

pub refuted_within : (net : Net) (g : List ℤ) (budget : ℕ) (tree : Plan) → EndsFor net g budget (Refuted tree) → PassForSignals net g budget → ⊥
refuted_within net g budget tree e = within net g budget e.0 (places [] tree) false e.1 e.2.1 e.2.2

pub stop_open : (stop : SearchStop) (answer : Answer) → IsStopAnswer stop answer → IsOpen answer.verdict
stop_open (WideA index basis) answer e = subst (λ (a : Answer). IsOpen a.verdict) (sym e) tt
stop_open (WideB index basis is_first) answer e = subst (λ (a : Answer). IsOpen a.verdict) (sym e) tt
stop_open NoMemory answer e = absurd e

-- an open verdict is no yes for the negative
pub open_is_no_yes : (v : Verdict) → IsOpen v → IsForNegative v → ⊥
open_is_no_yes (Unknown gap) o h = h
open_is_no_yes v o h = absurd o

-- nor is a yes with the turn 1
pub found_is_first : (count species : ℕ) (q : List Sign) (a b : List ℤ) (answer : Answer) → IsFoundAnswer (pos 1) count species q a b answer → IsForNegative answer.verdict → ⊥
found_is_first count species q a b answer f h =
    let turn : pos 1 ≡ negsuc 0 = subst (λ (x : Answer). IsForNegative x.verdict) f.is h in
    absurd (omega (arith, ints, turn))
