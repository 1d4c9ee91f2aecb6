-- The lines of a document on endotactic networks, and their tests in order.
-- Source: this project's own format.
-- Shapes: lines, coordinates and bases count from 1; reactions count from 1 in lines, and from 0 in
-- problems.
use Rattle.std.specs.Prelude.{◌≡◌, ◌≤◌, ◌+◌, ◌-◌, ◌==◌, ℕ, zero, suc, Bool, if◌then◌else◌, List, [], ◌∷◌, ◌++◌, length, map, sum, codes}
use Rattle.std.specs.List.{flat_map}
use Rattle.std.specs.Str.{bytes_eq}
use Rattle.crn_vec.specs.Network.{Net, IsNetwork}
use Rattle.crn_vec.specs.declared.signs.Sign.{Sign}
use Rattle.crn_vec.specs.declared.signs.Sign.TheVariants.{Zero, Plus, Minus}
use Rattle.crn_vec.specs.declared.limits.TheConstants.{MAX_BUDGET, MAX_COORDINATES}
use Rattle.crn_vec.specs.Problems.{Signed, all_zero}
use Rattle.crn_cert.specs.Nodes.{Said, Splits, Flats, CutsA, Fits}
use Rattle.crn_cert.specs.Trees.{node_count}
use Rattle.crn_ctree.specs.Gives.{is_cut}
use Rattle.crn_ctext.specs.Records.{Record, Form, Rising}
use Rattle.crn_ctext.specs.Kinds.{small, record_form, small_form, free_form}
use Rattle.crn_ctext.specs.Course.{Course, Give, ◌>>=◌, ◌>>◌, test_own}
use Rattle.crn_ctext.specs.Blocks.{either, word_of}
use Rattle.crn_ctext.specs.Questions.{first_number}
use Rattle.crn_ctext.specs.Documents.{one_word}
use Rattle.crn_ctext.specs.Answers.{small_record, nodes}
use Rattle.crn_ctext.specs.Parts.{Part, Meant, IsPartDocument, asks_part, part_document}
use Rattle.crn_endo_check.specs.declared.endo.Endo.{Endo}
use Rattle.crn_endo_check.specs.declared.endo.Endo.TheVariants as given
use Rattle.crn_endo_check.specs.Endo.{IsFormedEndo, IsValidEndo, row_count}
use Rattle.crn_endo_check.specs.Endotactic.{IsAgainst}
use Rattle.crn_endo_check.specs.Slopes.{slope_size, slopes}
use Rattle.crn_endo_text.specs.declared.seen.EndoSeen.{EndoSeen}
use Rattle.crn_endo_text.specs.declared.seen.EndoSeen.TheVariants.{Yes, No, Undecided}

-- ---- words and forms

-- the words of the lines
abbrev pub words : List (List ℕ)
words =
    codes "yes" ∷ codes "no" ∷ codes "wide" ∷ codes "spent" ∷ codes "large" ∷ codes "slope"
    ∷ codes "split" ∷ codes "flat" ∷ codes "cuta" ∷ codes "end" ∷ []

-- the sizes are within what a system may have
abbrev pub is_small : Net → Bool
is_small net = (slope_size net - MAX_COORDINATES) == 0

-- the line of a yes, of a network that is small enough
abbrev pub yes_forms : Bool → List Form
yes_forms small = if small then record_form (codes "yes") [] ∷ [] else []

-- the line of a wide vector of a reaction's matrix, which has this many columns and rows
abbrev pub wide_form : (reactions columns rows : ℕ) → Form
wide_form reactions columns rows = record_form (codes "wide")
    (small 1 1 reactions ∷ small 1 1 (columns + rows) ∷ Rising columns (columns + rows) ∷ [])

-- the line of a budget that the visits of a reaction exceed
abbrev pub spent_form : (reactions : ℕ) → Form
spent_form reactions =
    record_form (codes "spent") (small 1 1 reactions ∷ small 1 1 MAX_BUDGET ∷ [])

-- the other lines of a verdict
abbrev pub other_forms : Net → List Form
other_forms net =
    small_form (codes "no") 1 1 (length net.reactions)
    ∷ wide_form (length net.reactions) (length net.names) (row_count net)
    ∷ spent_form (length net.reactions) ∷ record_form (codes "large") [] ∷ []

-- the line of the verdict
abbrev pub verdict_forms : Net → List Form
verdict_forms net = yes_forms (is_small net) ++ other_forms net

-- the line after a no
abbrev pub slope_forms : Net → List Form
slope_forms net = free_form (codes "slope") (length net.names) ∷ []

-- a node of a tree, whose cuts have this many numbers
abbrev pub node_forms : (rows : ℕ) → List Form
node_forms rows =
    record_form (codes "split") [] ∷ record_form (codes "flat") []
    ∷ free_form (codes "cuta") rows ∷ []

-- ---- the course of a tree

-- the node that a record is
abbrev pub said_of : Record → Said
said_of r =
    if bytes_eq (word_of r) (codes "split") then Splits else (
    if bytes_eq (word_of r) (codes "flat") then Flats else CutsA r.numbers)

-- the number of the fault of a node: of a cut 72, of another 71
abbrev pub node_fault : Said → ℕ
node_fault node = if is_cut node then 72 else 71

-- a node is due at a prefix, and it passes its test
abbrev pub asks_node : Signed → List Sign → (line : ℕ) → Course Said
asks_node w prefix n = do
  r ← asks_part words n (node_forms (length w.matrix_a.rows))
  test_own n (node_fault (said_of r)) (Fits w prefix (said_of r))
  Give (said_of r)

-- after a split the children, after another node what comes after it
abbrev pub if_split : {A : Type 0} → Said → (children after : Course A) → Course A
if_split Splits children after = children
if_split node children after = after

-- the tree of a prefix with this many choices still to make, whose first node is due at this line, and
-- then what comes after it, by the line that is due then
unfoldable pub asks_tree : {A : Type 0} → Signed → (more : ℕ) → List Sign → (line : ℕ)
    → (after : ℕ → Course A) → Course A
asks_tree w zero prefix n after = do
  node ← asks_node w prefix n
  after (n + 1)
asks_tree w (suc more) prefix n after = do
  node ← asks_node w prefix n
  if_split node
      (asks_tree w more (prefix ++ Zero ∷ []) (n + 1) (λ k.
      asks_tree w more (prefix ++ Plus ∷ []) k (λ m.
      either (all_zero prefix) (after m) (asks_tree w more (prefix ++ Minus ∷ []) m after))))
      (after (n + 1))

-- the trees of so many reactions from reaction r on, and then what comes after them
unfoldable pub asks_trees : {A : Type 0} → Net → (count r : ℕ) → (line : ℕ)
    → (after : ℕ → Course A) → Course A
asks_trees net zero r n after = after n
asks_trees net (suc count) r n after = asks_tree (slopes net r) (slopes net r).choices [] n
    (λ k. asks_trees net count (r + 1) k after)

-- ---- the course of all lines

-- after a yes: a tree for each reaction
abbrev pub asks_yes : Net → (line : ℕ) → Course (ℕ × EndoSeen)
asks_yes net n = asks_trees net (length net.reactions) 0 n (λ k. Give (k, Yes))

-- after a no at a reaction: a slope against it
abbrev pub asks_no : Net → (reaction line : ℕ) → Course (ℕ × EndoSeen)
asks_no net reaction n = do
  slope ← asks_part words n (slope_forms net)
  test_own n 73 (IsAgainst net (reaction - 1) slope.numbers)
  Give (n + 1, No reaction)

-- after the line of the verdict
abbrev pub asks_rest : Net → (line : ℕ) → Record → Course (ℕ × EndoSeen)
asks_rest net n r = either (bytes_eq (word_of r) (codes "yes")) (asks_yes net n)
    (either (bytes_eq (word_of r) (codes "no")) (asks_no net (first_number r.numbers) n)
    (Give (n, Undecided)))

-- the lines of a document on endotactic networks
abbrev pub asks_endo : Net → (line : ℕ) → Course (ℕ × EndoSeen)
asks_endo net n = do
  r ← asks_part words n (verdict_forms net)
  asks_rest net (n + 1) r

-- the numbers of its own faults
abbrev pub IsOwn : (number : ℕ) → Type 0
IsOwn number = (71 ≤ number) × (number ≤ 73)

-- the part
abbrev pub part : Part EndoSeen
part = record { name = codes "endo"; words = words; IsOwn = IsOwn; lines = asks_endo }

-- ---- the records of an answer

-- the records of an answer
abbrev pub records : Endo → List Record
records (given.Yes trees) = one_word (codes "yes") [] ∷ flat_map nodes trees
records (given.No reaction slope) =
    small_record (codes "no") (reaction ∷ []) ∷ one_word (codes "slope") slope.list ∷ []
records (given.Wide reaction index basis) =
    small_record (codes "wide") (reaction ∷ index ∷ basis.list) ∷ []
records (given.Spent reaction nodes) = small_record (codes "spent") (reaction ∷ nodes ∷ []) ∷ []
records given.Large = one_word (codes "large") [] ∷ []

-- what is read of an answer
abbrev pub seen_of : Endo → EndoSeen
seen_of (given.Yes trees) = Yes
seen_of (given.No reaction slope) = No reaction
seen_of answer = Undecided

-- its answers
abbrev pub meant : Meant Endo EndoSeen
meant = record {
  IsFormed = IsFormedEndo;
  IsValid = IsValidEndo;
  records = records;
  says = seen_of;
}

-- of these lines this is read
abbrev pub IsSeenOf : EndoSeen → Net × EndoSeen → Type 0
IsSeenOf seen read = read.1 ≡ seen

-- ---- laws

-- the trees of a yes have together at most as many nodes as the greatest budget
abbrev pub HasFewNodes : Endo → Type 0
HasFewNodes (given.Yes trees) = sum (map node_count trees) ≤ MAX_BUDGET
HasFewNodes (given.No reaction slope) = Unit {0}
HasFewNodes (given.Wide reaction index basis) = Unit {0}
HasFewNodes (given.Spent reaction nodes) = Unit {0}
HasFewNodes given.Large = Unit {0}

-- what is written of such an answer, if it is formed and valid, is a document
abbrev pub WrittenAreDocuments : Type 0
WrittenAreDocuments = (net : Net) (answer : Endo) → IsNetwork net → IsFormedEndo net answer
    → IsValidEndo net answer → HasFewNodes answer
    → IsPartDocument part meant net answer (part_document part.name net (records answer))
