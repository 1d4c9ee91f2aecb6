-- For the contracts of private functions alone. The nodes of a tree one by one, and the prefixes
-- that are due.
-- Source: this project's own format.
-- Shapes: `due` lists the prefixes whose trees are still to come, the next one first.
use Rattle.std.specs.Prelude.{◌≡◌, ◌≢◌, ◌<◌, ◌+◌, ◌-◌, ◌++◌, ℕ, ℤ, true, false, List, [], ◌∷◌, length, Result}
use Rattle.crn_vec.specs.declared.signs.Sign.{Sign}
use Rattle.crn_vec.specs.Network.{Net}
use Rattle.crn_vec.specs.Problems.{Signed, children}
use Rattle.crn_cert.specs.Nodes.{Said, Fits, Splits, Flats, CutsA, CutsB}
use Rattle.crn_ctext.specs.Records.{Record}
use Rattle.crn_ctext.specs.Kinds.{node_forms}
use Rattle.crn_ctext.specs.Course.{Course, Give, ◌>>=◌, due, test}
use Rattle.crn_ctext.specs.Blocks.{Problem, Node, Split, Flat, CutA, CutB, asks_leaf, asks_tree, leaf, word_of}
use Rattle.crn_ctext.specs.Documents.{IsOneOf}
use Rattle.crn_ctext.specs.Meaning.{problem_with}
use Rattle.crn_ctext.specs.Expect.{IsExpectable, tests_of, text_of}
use Rattle.crn_ctext.specs.declared.word.Word.{Word}
use Rattle.crn_ctext.specs.declared.expect.Expect.{Expect}
use Rattle.crn_ctext.specs.declared.expect.Due.TheVariants as due_kinds
use Rattle.crn_ctree.specs.Gives.{IsTaken, NodeGives, SharedGives}
use Rattle.crn_ctree.specs.Problem.{problem_of}
use Rattle.crn_ctree.specs.declared.problem.Problem.{Problem as TreeProblem}
use Rattle.crn_ctree.specs.declared.problem.Problem.TheVariants.{Concordance, Signals}
use Rattle.crn_ctree.specs.declared.node.Step.{Step}
use Rattle.crn_ctree.specs.declared.node.Step.TheVariants.{More, Complete}
use Rattle.crn_ctree.specs.declared.fault.TreeFault.{TreeFault}
use Rattle.crn_reading.specs.Records.{IsSaid}
use Rattle.crn_cert.specs.Faults.{NodeNotAllowed}

-- ---- the line of a node

-- the node that is due at a line
abbrev pub asks_node_for : Expect → (line : ℕ) → Course Record
asks_node_for e n = due true >>= (λ line. tests_of e n line)

-- the record is one that was due, of this word, and these are its numbers
pub record IsSaidAs (e : Expect) (word : Word) (read : List ℤ) (r : Record) : Type 0 where
  pub said : IsSaid e read r
  pub kind : word_of r ≡ text_of word

-- a node is due in a document of this version with this many shared lists; its cuts of part A have
-- `count_a` numbers, and those of part B one for each species
pub record ExpectsNode (e : Expect) (version count_a species shared : ℕ) : Type 0 where
  pub may : IsExpectable e
  pub of_version : e.version ≡ version
  pub due : e.due ≡ due_kinds.Node count_a species shared

-- a node is due in a document with this many shared lists
pub record HasNodeDue (e : Expect) (shared : ℕ) : Type 0 where
  pub a : ℕ
  pub b : ℕ
  pub due : e.due ≡ due_kinds.Node a b shared

-- a node is due in a document of version 2 with this many shared lists
pub record NamesTo (e : Expect) (shared : ℕ) : Type 0 where
  pub a : ℕ
  pub b : ℕ
  pub second : e.version ≡ 2
  pub due : e.due ≡ due_kinds.Node a b shared

-- the record is such a node, of this word, and these are its numbers
pub record IsNode (version count_a species shared : ℕ) (word : Word) (numbers : List ℤ)
    (r : Record) : Type 0 where
  pub form : IsOneOf (node_forms version count_a species shared) r
  pub kind : word_of r ≡ text_of word
  pub numbers_are : numbers ≡ r.numbers

-- ---- the test of a node

-- what the test of a node gives, which may be a cut by a shared list
abbrev pub JudgeGives : Signed → List (List Sign) → Node → List (List Sign)
    → Result Step TreeFault → Type 0
JudgeGives w due Split after result = NodeGives w due Splits after result
JudgeGives w due Flat after result = NodeGives w due Flats after result
JudgeGives w due (CutA true u) after result = SharedGives w due (CutsA u) after result
JudgeGives w due (CutA false u) after result = NodeGives w due (CutsA u) after result
JudgeGives w due (CutB true u) after result = SharedGives w due (CutsB u) after result
JudgeGives w due (CutB false u) after result = NodeGives w due (CutsB u) after result

-- ---- one node after another

-- how many choices a prefix has: one for each species, after those for the terminal classes
abbrev pub choices_in : Net → TreeProblem → ℕ
choices_in net (Concordance table) = length net.names
choices_in net (Signals shape) = shape.now.count + shape.now.species

-- how many numbers a cut of part A has: one for each species, or one for each complex and each
-- linked pair
abbrev pub count_a : Net → TreeProblem → ℕ
count_a net (Concordance table) = length net.names
count_a net (Signals shape) = length shape.now.complexes + length shape.now.pairs

-- the sign problem of a tree as the course of a document sees it
abbrev pub problem_in : Net → TreeProblem → Problem
problem_in net problem =
    problem_with (choices_in net problem) (count_a net problem) (length net.names)
    (Fits (problem_of net problem))

-- the test of a node at a prefix: one that is full is not split
abbrev pub node_test : Problem → List Sign → (line : ℕ) → Node → Course (Unit {0})
node_test p prefix n Split = test n NodeNotAllowed (length prefix < p.choices)
node_test p prefix n node = leaf p prefix n node

-- a node is due at a prefix, and this is it
abbrev pub asks_one : (version : ℕ) → List (List ℤ) → Problem → List Sign → (line : ℕ)
    → Course Node
asks_one version table p prefix n =
    asks_leaf version table p n >>= (λ node. node_test p prefix n node >>= (λ x. Give node))

-- the prefixes that are due after a node at the first of some
abbrev pub after_node : List Sign → List (List Sign) → Node → List (List Sign)
after_node prefix rest Split = children prefix ++ rest
after_node prefix rest node = rest

-- the trees of these prefixes, one after another
unfoldable pub asks_due : (version : ℕ) → List (List ℤ) → Problem → List (List Sign)
    → (line : ℕ) → Course ℕ
asks_due version table p [] n = Give n
asks_due version table p (prefix ∷ due) n =
    asks_tree version table p (p.choices - length prefix) prefix n >>= (λ m.
    asks_due version table p due m)

-- some node was taken, and leaves these due
abbrev pub TakesSome : Signed → (due after : List (List Sign)) → Type 0
TakesSome w due after = (said : Said) × IsTaken w due said after

-- more prefixes are due, or none
abbrev pub Leaves : Step → List (List Sign) → Type 0
Leaves More due = due ≢ []
Leaves Complete due = due ≡ []
