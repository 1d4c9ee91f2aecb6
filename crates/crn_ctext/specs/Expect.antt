-- What is due at a line of a document, and what reading the line against it gives.
-- Source: this project's own format. Shapes: words and lines are lists of bytes; questions, sections and lines count from 1.
use Rattle.std.specs.Prelude.{◌≡◌, ◌≤◌, ◌<◌, ◌-◌, ◌⊎◌, ◌++◌, ℕ, ℤ, pos, unsigned_abs, Bool, false, if◌then◌else◌, List, [], ◌∷◌, length, map, codes, slice_index_or}
use Rattle.std.specs.List.{AllByRecursion, flat_map, list_any}
use Rattle.std.specs.Str.{bytes_eq}
use Rattle.crn_vec.specs.Lists.{IsIn, IsAscending}
use Rattle.crn_vec.specs.declared.limits.TheConstants.{MAX_SPECIES, MAX_COMPLEXES, MAX_REACTIONS, WIDE_SOLUTION}
use Rattle.crn_io.specs.Lines.{Place}
use Rattle.crn_io.specs.declared.lines.TheConstants.{MAX_NUMBERS}
use Rattle.crn_cert.specs.Questions.{Question, Q1, questions}
use Rattle.crn_ctext.specs.Records.{Record, Form, Field, Small, Several, Free, Members}
use Rattle.crn_ctext.specs.Kinds.{row_words, record_form, end_form, table_form, vector_form, section_form, node_forms}
use Rattle.crn_cert.specs.Table.{Sizes}
use Rattle.crn_ctext.specs.Questions.{heads, side_form, opens}
use Rattle.crn_ctext.specs.Course.{Course, Gives, FailsFirst}
use Rattle.crn_ctext.specs.Blocks.{reads, place_of, word_of}
use Rattle.crn_ctext.specs.declared.word.Word.{Word}
use Rattle.crn_ctext.specs.declared.word.Word.TheVariants as word
use Rattle.crn_ctext.specs.declared.kinds.RecordKind.{RecordKind}
use Rattle.crn_ctext.specs.declared.fault.DocCode.{DocCode}
use Rattle.crn_ctext.specs.declared.fault.DocCode.TheVariants as code
use Rattle.crn_ctext.specs.declared.expect.Sizes.{Sizes as GivenSizes}
use Rattle.crn_ctext.specs.declared.expect.Due.{Due}
use Rattle.crn_ctext.specs.declared.expect.Due.TheVariants as due
use Rattle.crn_ctext.specs.declared.expect.Expect.{Expect}
use Rattle.crn_cert.specs.Faults.{Fault, WrongOrder, TreeEndsEarly}

-- the word that begins a record of this kind
abbrev pub text_of : Word → List ℕ
text_of word.Q1 = codes "q1"
text_of word.Q2 = codes "q2"
text_of word.Q3 = codes "q3"
text_of word.Q4 = codes "q4"
text_of word.Q5 = codes "q5"
text_of word.Q6 = codes "q6"
text_of word.Q7 = codes "q7"
text_of word.Q8 = codes "q8"
text_of word.Q9 = codes "q9"
text_of word.Q10 = codes "q10"
text_of word.Q11 = codes "q11"
text_of word.Q12 = codes "q12"
text_of word.Q13 = codes "q13"
text_of word.Q14 = codes "q14"
text_of word.Q15 = codes "q15"
text_of word.Label = codes "label"
text_of word.Up = codes "up"
text_of word.Depth = codes "depth"
text_of word.From = codes "from"
text_of word.To = codes "to"
text_of word.FromDepth = codes "fromdepth"
text_of word.ToDepth = codes "todepth"
text_of word.Level = codes "level"
text_of word.Exit = codes "exit"
text_of word.Back = codes "back"
text_of word.Base = codes "base"
text_of word.Dual = codes "dual"
text_of word.Comb = codes "comb"
text_of word.Vec = codes "vec"
text_of word.Cut = codes "cut"
text_of word.Side = codes "side"
text_of word.Walk = codes "walk"
text_of word.Tie = codes "tie"
text_of word.Shelves = codes "shelves"
text_of word.Mu = codes "mu"
text_of word.M = codes "m"
text_of word.Weights = codes "weights"
text_of word.Alpha = codes "alpha"
text_of word.Split = codes "split"
text_of word.Flat = codes "flat"
text_of word.CutA = codes "cuta"
text_of word.CutB = codes "cutb"
text_of word.End = codes "end"
text_of word.Vectors = codes "vectors"
text_of word.Vector = codes "vector"
text_of word.Section = codes "section"
text_of word.RefA = codes "refa"
text_of word.RefB = codes "refb"

-- the words of these kinds
abbrev pub texts : List RecordKind → List (List ℕ)
texts kinds = map (λ (k : RecordKind). text_of k.word) kinds

-- the number of a refusal
abbrev pub code_of : DocCode → ℕ
code_of code.UnknownWord = 23
code_of code.BadField = 24
code_of code.NumberWide = 25
code_of code.WrongOrder = 26
code_of code.TreeEndsEarly = 43
code_of code.TreeGoesOn = 44

-- the sizes that forms rest on
abbrev pub sizes_of : GivenSizes → Sizes
sizes_of z = record {
  species = z.species;
  complexes = z.complexes;
  reactions = z.reactions;
  classes = length z.class_reactions.now;
  terminal = z.terminal;
  pairs = z.pairs;
  class_reactions = λ k. slice_index_or z.class_reactions.now (k - 1) 0;
  vector = z.vector;
}

-- the question of this number, the first if there is none
abbrev pub question_of : ℕ → Question
question_of k = slice_index_or questions (k - 1) Q1

-- the names of the sections in order
abbrev pub section_names : List (List ℕ)
section_names = flat_map opens questions

-- the words of rows below a head whose numbers are free
abbrev pub free_words : List (List ℕ)
free_words =
    codes "dual" ∷ codes "comb" ∷ codes "vec" ∷ codes "cut" ∷ codes "tie" ∷ codes "mu" ∷ codes "m"
    ∷ codes "weights" ∷ codes "alpha" ∷ []

-- this many numbers: free ones if the word says so, and else from the least to the greatest
abbrev pub part_field : List ℕ → (count : ℕ) → (least greatest : ℤ) → Field
part_field word count least greatest =
    if list_any (bytes_eq word) free_words then Free count else Small count least greatest

-- the forms of the records that may be at the line
abbrev pub due_forms : Due → (version : ℕ) → Sizes → List Form
due_forms (due.Head k) version z = heads (question_of k) z
due_forms (due.Base count members) version z =
    record_form (codes "base") (Members count members.now ∷ []) ∷ []
due_forms (due.Side reaction) version z = side_form z reaction ∷ []
due_forms due.Walk version z =
    record_form (codes "walk") (Several 2 z.complexes (pos 1) (pos z.complexes) ∷ []) ∷ []
due_forms (due.Part word count least greatest) version z =
    record_form (text_of word) (part_field (text_of word) count least greatest ∷ []) ∷ []
due_forms (due.Node count_a count_b shared) version z = node_forms version count_a count_b shared
due_forms due.Finish version z = end_form ∷ []
due_forms due.Table version z = table_form ∷ []
due_forms due.Vector version z = vector_form ∷ []
due_forms (due.Section i) version z = section_form (slice_index_or section_names (i - 1) []) ∷ []

-- the forms of the records that are due
abbrev pub forms_of : Expect → List Form
forms_of e = due_forms e.due e.version (sizes_of e.sizes)

-- the fault of a known word that is not due: of a node of a tree, or of another record
abbrev pub misplaced : Due → Fault
misplaced (due.Node count_a count_b shared) = TreeEndsEarly
misplaced other = WrongOrder

-- a word of a tree would go on with the tree of the line before: never if a node is due
abbrev pub is_after : Due → Bool → Bool
is_after (due.Node count_a count_b shared) after_tree = false
is_after other after_tree = after_tree

-- the tests of the line of this number against what is due, in their order
abbrev pub tests_of : Expect → (line : ℕ) → List ℕ → Course Record
tests_of e n line =
    reads e.version n (is_after e.due e.after_tree) (forms_of e) (misplaced e.due) line

-- a head's numbers are after the place of its form
abbrev pub tag_of : Due → Sizes → Record → List ℤ
tag_of (due.Head k) z r = pos (place_of (heads (question_of k) z) r.words) ∷ []
tag_of other z r = []

-- all tests of the line hold, and it is a record of this kind; the tag and its numbers were read
pub record IsReadAs (e : Expect) (line : List ℕ) (word : Word) (read : List ℤ) : Type 0 where
  pub said : Record
  pub gives : (n : ℕ) (at : Place) → Gives (tests_of e n line) at said at
  pub kind : word_of said ≡ text_of word
  pub numbers : read ≡ tag_of e.due (sizes_of e.sizes) said ++ said.numbers

-- the first test of the line that fails has this code
pub record IsRefusedBy (e : Expect) (line : List ℕ) (code : ℕ) : Type 0 where
  pub fails : (n : ℕ) (at : Place) → FailsFirst (tests_of e n line) at n code

-- ---- what may be due

-- sizes within the limits of networks
pub record AreSizes (z : GivenSizes) : Type 0 where
  pub species : z.species ≤ MAX_SPECIES
  pub complexes : z.complexes ≤ MAX_COMPLEXES
  pub reactions : z.reactions ≤ MAX_REACTIONS
  pub pairs : z.pairs ≤ MAX_REACTIONS
  pub classes : length z.class_reactions.now ≤ MAX_COMPLEXES
  pub each : AllByRecursion (λ r. r ≤ MAX_REACTIONS) z.class_reactions.now

-- it may be due in this version, has at most as many numbers as a line, and bounds below those of free numbers
abbrev pub MayBeDue : Due → (version : ℕ) → Type 0
MayBeDue (due.Head k) version = (1 ≤ k) × (k ≤ 15)
MayBeDue (due.Base count members) version =
    (count ≤ MAX_NUMBERS) × IsAscending members.now
    × AllByRecursion (λ m. m ≤ MAX_REACTIONS) members.now
MayBeDue (due.Side reaction) version = Unit {0}
MayBeDue due.Walk version = Unit {0}
MayBeDue (due.Part word count least greatest) version =
    IsIn (text_of word) row_words × (count ≤ MAX_NUMBERS)
    × (unsigned_abs least < WIDE_SOLUTION) × (unsigned_abs greatest < WIDE_SOLUTION)
MayBeDue (due.Node count_a count_b shared) version =
    (count_a ≤ MAX_NUMBERS) × (count_b ≤ MAX_NUMBERS)
MayBeDue due.Finish version = Unit {0}
MayBeDue due.Table version = version ≡ 2
MayBeDue due.Vector version = version ≡ 2
MayBeDue (due.Section i) version = (version ≡ 2) × (1 ≤ i) × (i ≤ 6)

-- a document may have this due
pub record IsExpectable (e : Expect) : Type 0 where
  pub version : (e.version ≡ 1) ⊎ (e.version ≡ 2)
  pub sizes : AreSizes e.sizes
  pub due : MayBeDue e.due e.version
