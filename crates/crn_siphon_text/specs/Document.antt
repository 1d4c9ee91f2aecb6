-- The lines of a document on persistence, and their tests in order.
-- Source: this project's own format.
-- Shapes: lines count from 1; species, reactions, coordinates and bases count from 1 in lines.
use Rattle.std.specs.Prelude.{◌≡◌, ◌≤◌, ◌+◌, ◌-◌, ℕ, zero, suc, ℤ, pos, Bool, true, false, if◌then◌else◌, List, [], ◌∷◌, ◌++◌, length, codes}
use Rattle.std.specs.Str.{bytes_eq}
use Rattle.crn_vec.specs.Network.{Net, IsNetwork}
use Rattle.crn_vec.specs.Deficiency.{IsConservationLaw}
use Rattle.crn_vec.specs.declared.limits.TheConstants.{MAX_BUDGET}
use Rattle.crn_cert.specs.Says.{RuleOutConservation}
use Rattle.crn_ctext.specs.Records.{Record, Form, Rising}
use Rattle.crn_ctext.specs.Kinds.{small, just, record_form, small_form, free_form}
use Rattle.crn_ctext.specs.Course.{Course, Give, ◌>>=◌, ◌>>◌, test_own}
use Rattle.crn_ctext.specs.Blocks.{either, word_of}
use Rattle.crn_ctext.specs.Questions.{first_number}
use Rattle.crn_ctext.specs.Documents.{one_word}
use Rattle.crn_ctext.specs.Answers.{small_record}
use Rattle.crn_ctext.specs.Parts.{Part, Meant, IsPartDocument, asks_part, part_document}
use Rattle.crn_siphon_check.specs.Siphons.{IsSiphon, IsSemiLaw, IsZeroOutside, Covers, set_of}
use Rattle.crn_siphon_check.specs.Prefixes.{IsBad, IsVoid}
use Rattle.crn_siphon_check.specs.Trees.{Plan, Fork, Bad, Law, Void, node_count}
use Rattle.crn_siphon_check.specs.Answers.{Said, Yes as SaysYes, NoLaw, NoSiphon, Wide, Spent, IsFormed, IsValid}
use Rattle.crn_siphon_check.specs.declared.answer.Outcome.{Outcome}
use Rattle.crn_siphon_check.specs.declared.answer.Outcome.TheVariants.{Yes, No, Undecided}

-- ---- words and forms

-- the words of the lines
abbrev pub words : List (List ℕ)
words =
    codes "yes" ∷ codes "no" ∷ codes "wide" ∷ codes "spent" ∷ codes "vec" ∷ codes "cut"
    ∷ codes "siphon" ∷ codes "mult" ∷ codes "fork" ∷ codes "bad" ∷ codes "law" ∷ codes "void"
    ∷ codes "end" ∷ []

-- system 1 or 2 is wide, with this many columns and rows
abbrev pub wide_form : (system columns rows : ℕ) → Form
wide_form system columns rows = record_form (codes "wide")
    (just system ∷ small 1 1 (columns + rows) ∷ Rising columns (columns + rows) ∷ [])

-- the line of the verdict
abbrev pub verdict_forms : Net → List Form
verdict_forms net =
    record_form (codes "yes") [] ∷ record_form (codes "no") []
    ∷ wide_form 1 (length net.names) (length net.reactions)
    ∷ wide_form 2 (length net.reactions) (length net.names)
    ∷ small_form (codes "spent") 1 1 MAX_BUDGET ∷ []

-- the line after a yes
abbrev pub law_forms : Net → List Form
law_forms net = free_form (codes "vec") (length net.names) ∷ []

-- the line after a no
abbrev pub no_forms : Net → List Form
no_forms net =
    free_form (codes "cut") (length net.reactions)
    ∷ small_form (codes "siphon") (length net.names) 0 1 ∷ []

-- the line after the marks of a siphon
abbrev pub cover_forms : Net → List Form
cover_forms net = free_form (codes "mult") (length net.reactions) ∷ []

-- a node of the tree
abbrev pub node_forms : Net → List Form
node_forms net =
    record_form (codes "fork") [] ∷ small_form (codes "bad") 1 1 (length net.reactions)
    ∷ free_form (codes "law") (length net.names) ∷ record_form (codes "void") [] ∷ []

-- ---- what records say

-- what a node is
pub data Node : Type 0 where
  Forks : Node
  IsBadBy : ℕ → Node
  HasLaw : List ℤ → Node
  Voids : Node

-- the node that a record is
abbrev pub node_of : Record → Node
node_of r =
    if bytes_eq (word_of r) (codes "fork") then Forks else (
    if bytes_eq (word_of r) (codes "bad") then IsBadBy (first_number r.numbers) else (
    if bytes_eq (word_of r) (codes "law") then HasLaw r.numbers else Voids))

-- ---- the course of a tree

-- a node without children holds at its prefix: a law is 53, another node 54
abbrev pub leaf : Net → List Bool → (line : ℕ) → Node → Course (Unit {0})
leaf net prefix n Forks = test_own n 54 ⊥
leaf net prefix n (IsBadBy r) = test_own n 54 (IsBad net prefix r)
leaf net prefix n (HasLaw x) = test_own n 53 (IsSemiLaw net x × IsZeroOutside prefix x)
leaf net prefix n Voids = test_own n 54 (IsVoid net prefix)

-- a node is due, and this is it
abbrev pub asks_node : Net → (line : ℕ) → Course Node
asks_node net n = do
  r ← asks_part words n (node_forms net)
  Give (node_of r)

-- the node holds at its prefix, or is a fork, and then its children follow
abbrev pub goes_on : Net → List Bool → (line : ℕ) → Node → (children : Course ℕ) → Course ℕ
goes_on net prefix n Forks children = children
goes_on net prefix n node children = do
  leaf net prefix n node
  Give (n + 1)

-- the tree of a prefix with this many species still to choose, whose first node is due at this line;
-- it gives the line after the tree
unfoldable pub asks_tree : Net → (more : ℕ) → List Bool → (line : ℕ) → Course ℕ
asks_tree net zero prefix n = do
  node ← asks_node net n
  leaf net prefix n node
  Give (n + 1)
asks_tree net (suc more) prefix n = do
  node ← asks_node net n
  goes_on net prefix n node (do
    k ← asks_tree net more (prefix ++ true ∷ []) (n + 1)
    asks_tree net more (prefix ++ false ∷ []) k)

-- ---- the course of all lines

-- after a yes: a law with positive weights, and then the tree
abbrev pub asks_yes : Net → (line : ℕ) → Course (ℕ × Outcome)
asks_yes net n = do
  law ← asks_part words n (law_forms net)
  test_own n 53 (IsConservationLaw net law.numbers)
  line ← asks_tree net (length net.names) [] (n + 1)
  Give (line, Yes)

-- after the marks of a siphon: the numbers that cover it, and then the tests of both
abbrev pub asks_cover : Net → (line : ℕ) → List ℤ → Course (ℕ × Outcome)
asks_cover net n marks = do
  cover ← asks_part words n (cover_forms net)
  test_own (n - 1) 51 (IsSiphon net (set_of marks))
  test_own n 52 (Covers net (set_of marks) cover.numbers)
  Give (n + 1, No)

-- after numbers that exclude every law with positive weights: their test
abbrev pub asks_none : Net → (line : ℕ) → List ℤ → Course (ℕ × Outcome)
asks_none net n cut = do
  test_own n 53 (RuleOutConservation net cut)
  Give (n + 1, No)

-- after a no: numbers that exclude every law with positive weights, or a siphon and what covers it
abbrev pub asks_no : Net → (line : ℕ) → Course (ℕ × Outcome)
asks_no net n = do
  r ← asks_part words n (no_forms net)
  either (bytes_eq (word_of r) (codes "cut")) (asks_none net n r.numbers)
      (asks_cover net (n + 1) r.numbers)

-- after the line of the verdict
abbrev pub asks_rest : Net → (line : ℕ) → Record → Course (ℕ × Outcome)
asks_rest net n r = either (bytes_eq (word_of r) (codes "yes")) (asks_yes net n)
    (either (bytes_eq (word_of r) (codes "no")) (asks_no net n) (Give (n, Undecided)))

-- the lines of a document on persistence
abbrev pub asks_persist : Net → (line : ℕ) → Course (ℕ × Outcome)
asks_persist net n = do
  r ← asks_part words n (verdict_forms net)
  asks_rest net (n + 1) r

-- the numbers of its own faults
abbrev pub IsOwn : (number : ℕ) → Type 0
IsOwn number = (51 ≤ number) × (number ≤ 54)

-- the part
abbrev pub part : Part Outcome
part = record { name = codes "persist"; words = words; IsOwn = IsOwn; lines = asks_persist }

-- ---- the records of an answer

-- the nodes of a tree in preorder
abbrev pub tree_records : Plan → List Record
tree_records (Fork inside outside) =
    one_word (codes "fork") [] ∷ (tree_records inside ++ tree_records outside)
tree_records (Bad r) = one_word (codes "bad") (pos r ∷ []) ∷ []
tree_records (Law weights) = one_word (codes "law") weights ∷ []
tree_records Void = one_word (codes "void") [] ∷ []

-- the records of an answer
abbrev pub records : Said → List Record
records (SaysYes law tree) = one_word (codes "yes") [] ∷ one_word (codes "vec") law
    ∷ tree_records tree
records (NoLaw cut) = one_word (codes "no") [] ∷ one_word (codes "cut") cut ∷ []
records (NoSiphon marks cover) = one_word (codes "no") []
    ∷ one_word (codes "siphon") marks ∷ one_word (codes "mult") cover ∷ []
records (Wide system index basis) =
    small_record (codes "wide") (system ∷ index ∷ basis) ∷ []
records (Spent nodes) = one_word (codes "spent") (pos nodes ∷ []) ∷ []

-- what is read of an answer
abbrev pub outcome_of : Said → Outcome
outcome_of (SaysYes law tree) = Yes
outcome_of (NoLaw cut) = No
outcome_of (NoSiphon marks cover) = No
outcome_of said = Undecided

-- of these lines this outcome is read
abbrev pub IsOutcomeOf : Outcome → Net × Outcome → Type 0
IsOutcomeOf outcome read = read.1 ≡ outcome

-- its answers
abbrev pub meant : Meant Said Outcome
meant = record {
  IsFormed = IsFormed;
  IsValid = IsValid;
  records = records;
  says = outcome_of;
}

-- ---- laws

-- the tree of a yes has at most as many nodes as the greatest budget
abbrev pub HasFewNodes : Said → Type 0
HasFewNodes (SaysYes law tree) = node_count tree ≤ MAX_BUDGET
HasFewNodes (NoLaw cut) = Unit {0}
HasFewNodes (NoSiphon marks cover) = Unit {0}
HasFewNodes (Wide system index basis) = Unit {0}
HasFewNodes (Spent nodes) = Unit {0}

-- what is written of such an answer, if it is formed and valid, is a document
abbrev pub WrittenAreDocuments : Type 0
WrittenAreDocuments = (net : Net) (answer : Said) → IsNetwork net → IsFormed net answer
    → IsValid net answer → HasFewNodes answer
    → IsPartDocument part meant net answer (part_document part.name net (records answer))
