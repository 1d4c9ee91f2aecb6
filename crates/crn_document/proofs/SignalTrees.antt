-- The tree for the vector of question 12 with a turn is the tree over the shape of that vector.
use Rattle.crn_document.proofs.Prelude.{◌≡◌, ◌+◌, ℕ, Bool, true, false, List, [], ◌∷◌, length, refl, subst, Result, ℤ, pos, negsuc, SourceSeen, Net, reaction_system, Sign, Shape, signals, HasNoSignal, IsShapeOf, IsRegular, Said, Q2, Q12, on, terminal_of, vector_given, IsTurn, by_turn, HasVector, IsNodeOf, OfVector, Problem, asks_tree, Known, pairs_of, problem_with, signal_problem, signal_problems, HoldTogether, trees_like, signal_nodes, KeptFacts, Reading, CheckStop, known_of, IsKnownFor, vector_or_none, StepIs}
use Rattle.crn_cert.specs.Nodes.{Fits}
use Rattle.crn_document.proofs.CoursesFollowed.{step_follows}
use Rattle.crn_document.proofs.SignalsKnown.{of_vector, sizes, some_vector, vector_has, vector_known}

-- the sign problem over a shape, as the course of a document sees it
abbrev pub shape_problem : Net → Shape → Problem
shape_problem net s = problem_with (s.count + s.species) (length s.complexes + length s.pairs) (length net.names) (Fits (signals s (reaction_system net)))

pub as_signal_tree : {T : Type 0} (net : Net) (facts : KeptFacts) (turn : ℤ) (s : Shape) (version n : ℕ) (table : List (List ℤ)) (Says : T → ℕ → Type 0) (result : Result T CheckStop) (old new : Reading) (before_it now : SourceSeen)
    → IsKnownFor net 13 facts → HasVector facts.earlier → IsTurn turn → OfVector facts.earlier turn (λ g. IsShapeOf net g s)
    → StepIs (asks_tree version table (shape_problem net s) (s.count + s.species) [] n) Says result old new before_it now
    → StepIs (asks_tree version table (signal_problem (known_of net facts.earlier) turn) (terminal_of (on facts.earlier Q2) + length net.names) [] n) Says result old new before_it now
as_signal_tree net facts turn s version n table Says result old new before_it now k some is of p =
    let earlier = facts.earlier in
    let o = vector_given (on earlier Q12) in
    let g = vector_or_none o in
    let sh : IsShapeOf net (by_turn turn g) s = vector_has o (λ x. IsShapeOf net (by_turn turn x) s) of in
    let z = sizes net facts turn s k some is sh in
    let a = length s.complexes + length s.pairs in
    let b = length net.names in
    let H : List Sign → Said → Type 0 = Fits (signals s (reaction_system net)) in
    let K : List Sign → Said → Type 0 = IsNodeOf net earlier turn in
    let together : HoldTogether H K = λ prefix said. let both = signal_nodes net earlier turn g s prefix said (some_vector o some) sh in (both.1, both.0) in
    let choices = s.count + s.species in
    subst (λ (c : ℕ). StepIs (asks_tree version table (problem_with c (length net.complexes + length (pairs_of (known_of net earlier))) b K) c [] n) Says result old new before_it now) z.choices
    (subst (λ (i : ℕ). StepIs (asks_tree version table (problem_with choices i b K) choices [] n) Says result old new before_it now) z.rows
    (step_follows (asks_tree version table (problem_with choices a b H) choices [] n) (asks_tree version table (problem_with choices a b K) choices [] n) Says result old new before_it now (trees_like version table choices a b H K together choices [] n) p))

-- what that tree shows
pub no_signal_shown : (net : Net) (facts : KeptFacts) (turn : ℤ) (s : Shape) → IsKnownFor net 13 facts → HasVector facts.earlier → OfVector facts.earlier turn (λ g. IsShapeOf net g s) → ((g : List ℤ) → IsRegular net → IsShapeOf net g s → HasNoSignal net g) → OfVector facts.earlier turn (λ g. HasNoSignal net g)
no_signal_shown net facts turn s k some of shows =
    let o = vector_given (on facts.earlier Q12) in
    of_vector o (λ g. HasNoSignal net (by_turn turn g)) some (shows (by_turn turn (vector_or_none o)) (vector_known net facts k some).regular (vector_has o (λ g. IsShapeOf net (by_turn turn g) s) of))

-- the trees after the first
abbrev pub later_signals : Known → Bool → List {1} Problem
later_signals known true = signal_problem known (negsuc 0) ∷ []
later_signals known false = []

pub first_signals : (known : Known) (weak : Bool) → signal_problems known weak ≡ signal_problem known (pos 1) ∷ later_signals known weak
first_signals known true = refl
first_signals known false = refl
