-- The lines of a document on robustness, and their tests in order.
-- Source: this project's own format.
-- Shapes: lines, species and complexes count from 1.
use Rattle.std.specs.Prelude.{◌≡◌, ◌≢◌, ◌≤◌, ◌⊎◌, ◌↔◌, ◌-◌, ◌+◌, ℕ, Bool, true, false, if◌then◌else◌, List, [], ◌∷◌, ◌++◌, length, codes}
use Rattle.std.specs.List.{flat_map}
use Rattle.std.specs.Str.{bytes_eq}
use Rattle.crn_vec.specs.Network.{Net, IsNetwork}
use Rattle.crn_vec.specs.Confluence.{HasConfluenceLine}
use Rattle.crn_cert.specs.declared.answer.Answer.{Answer}
use Rattle.crn_cert.specs.declared.answer.Verdict.{Verdict}
use Rattle.crn_cert.specs.declared.answer.Verdict.TheVariants.{Unknown}
use Rattle.crn_cert.specs.Questions.{Earlier, Question, Q1, Q2, Q5, IsOpen, on, rank_of}
use Rattle.crn_cert.specs.Formed as cert
use Rattle.crn_cert.specs.Valid as cert_valid
use Rattle.crn_cert.specs.Valid.{IsLeft}
use Rattle.crn_ctext.specs.Records.{Record, Form}
use Rattle.crn_ctext.specs.Kinds.{small, record_form, small_form}
use Rattle.crn_ctext.specs.Course.{Course, Give, ◌>>=◌, ◌>>◌, test_own}
use Rattle.crn_ctext.specs.Blocks.{AfterBlocks, asks_blocks, either, word_of}
use Rattle.crn_ctext.specs.Questions.{first_number}
use Rattle.crn_ctext.specs.Answers.{all_records, small_record}
use Rattle.crn_ctext.specs.PartBlocks.{learned, verdicts_on}
use Rattle.crn_ctext.specs.Meaning.{Known, meaning, number}
use Rattle.crn_ctext.specs.Parts.{Part, Meant, IsPartDocument, asks_part, part_document}
use Rattle.crn_robust.specs.declared.robust.Robust.{Robust}
use Rattle.crn_robust.specs.declared.robust.Robust.TheVariants.{Yes, Number, None, Rests}
use Rattle.crn_robust.specs.Robust.{IsLeastPair, HasNoPair, IsCase}
use Rattle.crn_robust.specs.Pick.{IsPicked}
use Rattle.crn_robust_text.specs.declared.verify.Verified.{Verified}

-- ---- words and forms

-- the questions whose blocks come first: on linkage classes, strong classes and the rank
abbrev pub rests_on : List Question
rests_on = Q1 ∷ Q2 ∷ Q5 ∷ []

-- the words of the lines below the blocks
abbrev pub words : List (List ℕ)
words =
    codes "line" ∷ codes "yes" ∷ codes "number" ∷ codes "none" ∷ codes "rests" ∷ codes "end" ∷ []

-- after blocks that leave the rank open
abbrev pub rests_forms : List Form
rests_forms = record_form (codes "rests") [] ∷ []

-- whether the confluence space is a line
abbrev pub line_forms : List Form
line_forms = small_form (codes "line") 1 0 1 ∷ []

-- the line of the verdict
abbrev pub case_forms : Net → List Form
case_forms net =
    record_form (codes "yes") (small 1 1 (length net.names) ∷ small 2 1 (length net.complexes) ∷ [])
    ∷ small_form (codes "number") 1 0 (length net.complexes) ∷ record_form (codes "none") [] ∷ []

-- the verdict that a line says
abbrev pub case_in : Record → Robust
case_in r =
    if bytes_eq (word_of r) (codes "yes")
    then Yes (number r.numbers 0) (number r.numbers 1) (number r.numbers 2)
    else (if bytes_eq (word_of r) (codes "number") then Number (number r.numbers 0) else None)

-- ---- the tests

-- the blocks decide the rank and leave this deficiency
abbrev pub IsDeficiencyBy : Net → Earlier → ℕ → Type 0
IsDeficiencyBy net earlier d = IsLeft net earlier d (rank_of (on earlier Q5))

-- 1 if and only if the blocks leave the deficiency 1
abbrev pub SaysLineBy : Net → Earlier → ℕ → Type 0
SaysLineBy net earlier b = (b ≡ 1) ↔ IsDeficiencyBy net earlier 1

-- which case holds of a network, by the deficiency that the blocks leave; it rests on the rank if they
-- leave that open
abbrev pub IsCaseBy : Net → Earlier → Robust → Type 0
IsCaseBy net earlier (Yes species first second) = IsDeficiencyBy net earlier 1 × (1 ≤ species)
    × (1 ≤ first) × (1 ≤ second) × IsLeastPair net (species - 1) (first - 1) (second - 1)
IsCaseBy net earlier (Number d) = IsDeficiencyBy net earlier d × (d ≢ 1)
IsCaseBy net earlier None = IsDeficiencyBy net earlier 1 × HasNoPair net
IsCaseBy net earlier Rests = IsOpen (on earlier Q5)

-- ---- the course

-- the verdict is open
abbrev pub is_open : Verdict → Bool
is_open (Unknown gap) = true
is_open other = false

-- after blocks that leave the rank open
abbrev pub asks_rests : (line : ℕ) → Course (ℕ × Robust)
asks_rests n = do
  r ← asks_part words n rests_forms
  Give (n + 1, Rests)

-- after blocks that decide the rank: whether the confluence space is a line, the verdict, and then
-- the tests of both
abbrev pub asks_case : Net → Earlier → (line : ℕ) → Course (ℕ × Robust)
asks_case net earlier n = do
  b ← asks_part words n line_forms
  r ← asks_part words (n + 1) (case_forms net)
  test_own n 55 (SaysLineBy net earlier (first_number b.numbers))
  test_own (n + 1) 56 (IsCaseBy net earlier (case_in r))
  Give (n + 2, case_in r)

-- before the blocks, which begin at this line
abbrev pub before : Net → (line : ℕ) → AfterBlocks Known
before net n = record { known = meaning.start net; by_tree = false; line = n; blocks = [] }

-- after the blocks
abbrev pub asks_verdict : Net → AfterBlocks Known → Course (ℕ × Robust)
asks_verdict net after = either (is_open (on after.known.earlier Q5)) (asks_rests after.line)
    (asks_case net after.known.earlier after.line)

-- the lines of a document on robustness: the blocks, of version 1, and then its own
abbrev pub asks_robust : Net → (line : ℕ) → Course (ℕ × Robust)
asks_robust net n = do
  after ← asks_blocks meaning 1 [] rests_on (before net n)
  asks_verdict net after

-- the numbers of its own faults
abbrev pub IsOwn : (number : ℕ) → Type 0
IsOwn number = (55 ≤ number) × (number ≤ 56)

-- the part
abbrev pub part : Part Robust
part = record { name = codes "robust"; words = words; IsOwn = IsOwn; lines = asks_robust }

-- ---- the records of an answer

-- 1 for a verdict that says that the deficiency is 1, else 0
abbrev pub line_of : Robust → ℕ
line_of (Yes species first second) = 1
line_of (Number d) = 0
line_of None = 1
line_of Rests = 0

-- the line of a verdict
abbrev pub verdict_record : Robust → Record
verdict_record (Yes species first second) =
    small_record (codes "yes") (species ∷ first ∷ second ∷ [])
verdict_record (Number d) = small_record (codes "number") (d ∷ [])
verdict_record None = small_record (codes "none") []
verdict_record Rests = small_record (codes "rests") []

-- the lines below the blocks: whether the confluence space is a line, and the verdict; or that it
-- rests on the rank
abbrev pub case_records : Robust → List Record
case_records Rests = verdict_record Rests ∷ []
case_records robust =
    small_record (codes "line") (line_of robust ∷ []) ∷ verdict_record robust ∷ []

-- an answer: the records of the blocks, and the verdict
pub record Said : Type 0 where
  pub blocks : List (List Record)
  pub robust : Robust

-- the verdicts of the blocks
abbrev pub earlier_of : Net → List (List Record) → Earlier
earlier_of net blocks = (learned meaning rests_on (meaning.start net) blocks).earlier

-- the numbers of a verdict are those of species, complexes and deficiencies
abbrev pub AreInside : Net → Robust → Type 0
AreInside net (Yes species first second) = ((1 ≤ species) × (species ≤ length net.names))
    × ((1 ≤ first) × (first ≤ length net.complexes))
    × ((1 ≤ second) × (second ≤ length net.complexes))
AreInside net (Number d) = d ≤ length net.complexes
AreInside net None = Unit {0}
AreInside net Rests = Unit {0}

-- the blocks are the records of these answers, which are formed
pub record AreBlocks (net : Net) (blocks : List (List Record)) : Type 0 where
  pub answers : List Answer
  pub formed : cert.AreFormed net [] rests_on answers
  pub are : all_records meaning rests_on (meaning.start net) answers ≡ blocks

-- the blocks are those of formed answers, and the verdict is within its ranges
abbrev pub IsFormed : Net → Said → Type 0
IsFormed net said = AreBlocks net said.blocks × AreInside net said.robust

-- the blocks are those of formed answers whose tests hold, and the verdict is the case that holds by
-- them
abbrev pub IsValid : Net → Said → Type 0
IsValid net said = ((b : AreBlocks net said.blocks) × cert_valid.AreValid net [] rests_on b.answers)
    × IsCaseBy net (earlier_of net said.blocks) said.robust

-- the records of an answer
abbrev pub records : Said → List Record
records said = flat_map (λ rs. rs) said.blocks ++ case_records said.robust

-- of these lines this network and this verdict are read
abbrev pub IsReadAs : Verified → Net × Robust → Type 0
IsReadAs verified read = (verified.net ≡ read.0) × (verified.answer ≡ read.1)

-- its answers
abbrev pub meant : Meant Said Robust
meant = record {
  IsFormed = IsFormed;
  IsValid = IsValid;
  records = records;
  says = λ said. said.robust;
}

-- ---- laws

-- of the answers to all questions, those on which robustness rests
abbrev pub blocks_of : List Answer → List Answer
blocks_of (a ∷ b ∷ c ∷ d ∷ e ∷ more) = a ∷ b ∷ e ∷ []
blocks_of answers = []

-- the records of these answers, and a verdict
abbrev pub said_of : Net → List Answer → Robust → Said
said_of net answers robust = record {
  blocks = all_records meaning rests_on (meaning.start net) answers;
  robust = robust;
}

-- what is written of formed and valid answers and of the verdict that they give is a document
abbrev pub WrittenAreDocuments : Type 0
WrittenAreDocuments = (net : Net) (answers : List Answer) (robust : Robust) → IsNetwork net
    → cert.AreFormed net [] rests_on answers → cert_valid.AreValid net [] rests_on answers
    → IsPicked net (on (verdicts_on rests_on answers) Q5) robust
    → IsPartDocument part meant net (said_of net answers robust)
    (part_document part.name net (records (said_of net answers robust)))

-- the verdict of a valid answer is the case that holds of the network, or rests on the rank
abbrev pub ValidAreTrue : Type 0
ValidAreTrue = (net : Net) (said : Said) → IsNetwork net → IsValid net said
    → (said.robust ≡ Rests) ⊎ IsCase net said.robust

-- and its line says whether the confluence space is a line
abbrev pub ValidLinesAreTrue : Type 0
ValidLinesAreTrue = (net : Net) (said : Said) → IsNetwork net → IsValid net said
    → (said.robust ≡ Rests → ⊥) → (line_of said.robust ≡ 1) ↔ HasConfluenceLine net
