-- When a tree that is checked node by node is complete, and what it shows.
-- Source: this project's own; Shinar and Feinberg, Concordant chemical reaction networks (2012),
-- for concordance.
use Rattle.std.specs.Prelude.{◌≡◌, ◌↔◌, ◌+◌, ℕ, ℤ, Some, if◌then◌else◌, List, [], ◌∷◌, ◌++◌, length}
use Rattle.crn_vec.specs.declared.signs.Sign.{Sign}
use Rattle.crn_vec.specs.Network.{Net, IsNetwork}
use Rattle.crn_vec.specs.NetSystems.{reaction_system}
use Rattle.crn_vec.specs.Problems.{Signed}
use Rattle.crn_vec.specs.Visits.{root}
use Rattle.crn_vec.specs.Concordance.{IsConcordant}
use Rattle.crn_vec.specs.Confluence.{IsRegular}
use Rattle.crn_vec.specs.Signals.{Shape, signals}
use Rattle.crn_vec.specs.NetSignals.{IsShapeOf, HasNoSignal}
use Rattle.crn_cert.specs.Questions.{Earlier, Q12, on, vector_given}
use Rattle.crn_cert.specs.Says.{by_turn}
use Rattle.crn_cert.specs.Valid.{IsNodeOf}
use Rattle.crn_cert.specs.Nodes.{Said, Fits, Passing, AreOfTree, nodes}
use Rattle.crn_cert.specs.Tests.{FailsFirst}
use Rattle.crn_cert.specs.Trees.{Plan, IsFormedTree}
use Rattle.crn_cert.specs.TreeTests.{tree_tests}
use Rattle.crn_ctree.specs.Due.{first}
use Rattle.crn_ctree.specs.Gives.{is_cut}
use Rattle.crn_ctree.specs.Problem.{problem_of, table_of}
use Rattle.crn_ctree.specs.declared.problem.Problem.{Problem}
use Rattle.crn_ctree.specs.declared.problem.Problem.TheVariants.{Concordance, Signals}

-- of nodes that fit one after another, nothing is due if and only if they are those of a valid tree
abbrev pub CompleteIfAndOnlyIfValid : Type 0
CompleteIfAndOnlyIfValid = (w : Signed) (said : List Said) (due : List (List Sign))
    → Passing w root said due → (due ≡ []) ↔ AreOfTree w [] said

-- what a complete tree of a sign problem shows: the table is concordant; the vector of the shape has
-- no signal
abbrev pub Shows : Net → Problem → Type 0
Shows net (Concordance table) = IsConcordant (reaction_system net) (table_of net table)
Shows net (Signals shape) = (g : List ℤ) → IsRegular net → IsShapeOf net g shape.now
    → HasNoSignal net g

-- nodes that fit one after another until nothing is due show it
abbrev pub CompleteTreesShow : Type 0
CompleteTreesShow = (net : Net) (problem : Problem) (said : List Said) → IsNetwork net
    → Passing (problem_of net problem) root said [] → Shows net problem

-- the code of the test of a node: 41 of a cut, and 42 of another
abbrev pub code_at : Said → ℕ
code_at said = if is_cut said then 41 else 42

-- the first node of a formed tree that does not fit is the first of the tree's tests that fails
abbrev pub FirstFaultsAreThoseOfTests : Type 0
FirstFaultsAreThoseOfTests = (w : Signed) (rows_a rows_b part : ℕ) (tree : Plan)
    (earlier more : List Said) (node : Said) (due : List (List Sign))
    → IsFormedTree w.choices rows_a rows_b [] tree → nodes tree ≡ earlier ++ node ∷ more
    → Passing w root earlier due → (Fits w (first due) node → ⊥)
    → FailsFirst (tree_tests (Fits w) part [] tree) (part + length earlier) (code_at node)

-- the nodes of the tree for the vector of question 12 with a turn are tested by the shape of that
-- vector
abbrev pub SignalNodesAreOfShape : Type 0
SignalNodesAreOfShape = (net : Net) (earlier : Earlier) (turn : ℤ) (g : List ℤ) (s : Shape)
    (p : List Sign) (said : Said) → vector_given (on earlier Q12) ≡ Some g
    → IsShapeOf net (by_turn turn g) s
    → IsNodeOf net earlier turn p said ↔ Fits (signals s (reaction_system net)) p said

-- the first node of a formed tree that does not fit by that shape is the first of the tests of the
-- tree for that vector that fails
abbrev pub FirstSignalFaultsAreThoseOfTests : Type 0
FirstSignalFaultsAreThoseOfTests = (net : Net) (known : Earlier) (turn : ℤ) (g : List ℤ) (s : Shape)
    (rows_a rows_b part : ℕ) (tree : Plan) (earlier more : List Said) (node : Said)
    (due : List (List Sign))
    → vector_given (on known Q12) ≡ Some g → IsShapeOf net (by_turn turn g) s
    → IsFormedTree (signals s (reaction_system net)).choices rows_a rows_b [] tree
    → nodes tree ≡ earlier ++ node ∷ more
    → Passing (signals s (reaction_system net)) root earlier due
    → (Fits (signals s (reaction_system net)) (first due) node → ⊥)
    → FailsFirst (tree_tests (IsNodeOf net known turn) part [] tree) (part + length earlier)
    (code_at node)
