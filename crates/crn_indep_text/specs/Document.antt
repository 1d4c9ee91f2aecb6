-- The lines of a document on the finest independent decomposition, and their tests in order.
-- Source: this project's own format.
-- Shapes: lines, reactions, parts, coordinates and bases count from 1.
use Rattle.std.specs.Prelude.{◌≡◌, ◌≤◌, ◌+◌, ◌-◌, min, ℕ, zero, suc, ℤ, nat_abs, Bool, true, false, List, [], ◌∷◌, ◌++◌, length, map, codes}
use Rattle.std.specs.Str.{bytes_eq}
use Rattle.crn_vec.specs.Network.{Net, IsNetwork}
use Rattle.crn_cert.specs.declared.answer.RankProof.{RankProof}
use Rattle.crn_cert.specs.Faults.{fault_number}
use Rattle.crn_cert.specs.Tests.{Test}
use Rattle.crn_ctext.specs.Records.{Record, Form, Rising}
use Rattle.crn_ctext.specs.Kinds.{small, record_form, small_form, free_form}
use Rattle.crn_ctext.specs.Course.{Course, Give, ◌>>=◌, ◌>>◌, test_own}
use Rattle.crn_ctext.specs.Blocks.{either, word_of}
use Rattle.crn_ctext.specs.Questions.{first_number}
use Rattle.crn_ctext.specs.Answers.{small_record, rank_records}
use Rattle.crn_ctext.specs.Parts.{Part, Meant, IsPartDocument, asks_part, part_document}
use Rattle.crn_indep_check.specs.declared.parts.Parts.{Parts}
use Rattle.crn_indep_check.specs.declared.parts.Parts.TheVariants.{Split, Wide}
use Rattle.crn_indep_check.specs.Shown.{AreEvenLabels, AreLinked, reactions, proof_tests, part_code, label_record, part_ranks, greatest}
use Rattle.crn_indep_check.specs.Parts.{IsFormedParts, AreValidParts}
use Rattle.crn_indep_text.specs.declared.seen.PartsSeen.{PartsSeen}

-- ---- words and forms

-- the words of the lines
abbrev pub words : List (List ℕ)
words =
    codes "rank" ∷ codes "wide" ∷ codes "base" ∷ codes "dual" ∷ codes "comb" ∷ codes "label"
    ∷ codes "up" ∷ codes "depth" ∷ codes "end" ∷ []

-- the first line: the rank, or a wide vector of the matrix of the reaction vectors
abbrev pub first_forms : Net → List Form
first_forms net =
    small_form (codes "rank") 1 1 (min (length net.names) (reactions net))
    ∷ record_form (codes "wide") (small 1 1 (length net.names + reactions net)
    ∷ Rising (length net.names) (length net.names + reactions net) ∷ []) ∷ []

-- the line of the base of a rank
abbrev pub base_forms : Net → (rank : ℕ) → List Form
base_forms net rank = record_form (codes "base") (Rising rank (reactions net) ∷ []) ∷ []

-- a line of a dual vector
abbrev pub dual_forms : Net → List Form
dual_forms net = free_form (codes "dual") (length net.names) ∷ []

-- a line of a combination of a base of this many
abbrev pub comb_forms : (rank : ℕ) → List Form
comb_forms rank = free_form (codes "comb") (suc rank) ∷ []

-- the line of the labels
abbrev pub label_forms : Net → List Form
label_forms net = small_form (codes "label") (reactions net) 1 (reactions net) ∷ []

-- the line of the reactions from which others hang
abbrev pub up_forms : Net → List Form
up_forms net = small_form (codes "up") (reactions net) 0 (reactions net) ∷ []

-- the line of the depths
abbrev pub depth_forms : Net → List Form
depth_forms net = small_form (codes "depth") (reactions net) 0 (reactions net - 1) ∷ []

-- ---- what is read

-- whether the decomposition is open, and the rank of each part in order
pub record Seen : Type 0 where
  pub undecided : Bool
  pub ranks : List ℕ

-- the natural numbers of a record
abbrev pub naturals : Record → List ℕ
naturals r = map nat_abs r.numbers

-- the rank proof of these lists
abbrev pub proof_of : List ℕ → List (List ℤ) → List (List ℤ) → RankProof
proof_of base duals combs =
    record { base = record { list = base; spare = 0 }; duals = duals; combs = combs }

-- what is seen of a decomposition
abbrev pub split_seen : RankProof → List ℕ → Seen
split_seen proof label =
    record { undecided = false; ranks = part_ranks proof label (greatest label) }

-- what is seen of an open answer
abbrev pub open_seen : Seen
open_seen = record { undecided = true; ranks = [] }

-- ---- the course

-- this many lines of these forms, one after another; they give their numbers
unfoldable pub asks_rows : (line : ℕ) → List Form → (count : ℕ) → Course (List (List ℤ))
asks_rows n forms zero = Give []
asks_rows n forms (suc k) = do
  r ← asks_part words n forms
  rows ← asks_rows (n + 1) forms k
  Give (r.numbers ∷ rows)

-- these tests in order, each at the line of its record and under its code in this document
unfoldable pub own_tests : (line : ℕ) → List {1} Test → Course (Unit {0})
own_tests n [] = Give tt
own_tests n (t ∷ ts) = do
  test_own (n + t.part) (part_code (fault_number t.fault)) t.holds
  own_tests n ts

-- the tests of a decomposition whose rank is at this line
abbrev pub asks_shown : Net → (line : ℕ) → RankProof → (label up depth : List ℕ) → Course (Unit {0})
asks_shown net n proof label up depth = do
  own_tests n (proof_tests net proof)
  test_own (n + label_record proof) 63 (AreEvenLabels net proof label)
  test_own (n + (label_record proof + 2)) 64 (AreLinked net proof label up depth)

-- the lines of the labels and of the links, the first of which is due at this line, and then the
-- tests of all; the rank is at line `head`
abbrev pub asks_links : Net → (head line : ℕ) → RankProof → Course (ℕ × Seen)
asks_links net head n proof = do
  label ← asks_part words n (label_forms net)
  up ← asks_part words (n + 1) (up_forms net)
  depth ← asks_part words (n + 2) (depth_forms net)
  asks_shown net head proof (naturals label) (naturals up) (naturals depth)
  Give (n + 3, split_seen proof (naturals label))

-- the lines of the proof of a rank, the first of which is due at this line
abbrev pub asks_proof : Net → (line : ℕ) → (rank : ℕ) → Course RankProof
asks_proof net n rank = do
  base ← asks_part words n (base_forms net rank)
  duals ← asks_rows (n + 1) (dual_forms net) rank
  combs ← asks_rows (n + 1 + rank) (comb_forms rank) (reactions net - rank)
  Give (proof_of (naturals base) duals combs)

-- after the line of a rank: its proof, the labels and the links
abbrev pub asks_split : Net → (head : ℕ) → (rank : ℕ) → Course (ℕ × Seen)
asks_split net head rank = do
  proof ← asks_proof net (head + 1) rank
  asks_links net head (head + 2 + rank + (reactions net - rank)) proof

-- after the first line
abbrev pub asks_rest : Net → (head : ℕ) → Record → Course (ℕ × Seen)
asks_rest net head r = either (bytes_eq (word_of r) (codes "rank"))
    (asks_split net head (first_number r.numbers)) (Give (head + 1, open_seen))

-- the lines of a document on the finest independent decomposition
abbrev pub asks_decomposition : Net → (line : ℕ) → Course (ℕ × Seen)
asks_decomposition net n = do
  r ← asks_part words n (first_forms net)
  asks_rest net n r

-- the numbers of its own faults
abbrev pub IsOwn : (number : ℕ) → Type 0
IsOwn number = (61 ≤ number) × (number ≤ 64)

-- the part
abbrev pub part : Part Seen
part = record { name = codes "parts"; words = words; IsOwn = IsOwn; lines = asks_decomposition }

-- ---- the records of an answer

-- the records of the labels and of the links
abbrev pub link_records : (label up depth : List ℕ) → List Record
link_records label up depth =
    small_record (codes "label") label ∷ small_record (codes "up") up
    ∷ small_record (codes "depth") depth ∷ []

-- the records of an answer
abbrev pub records : Parts → List Record
records (Split rank label up depth) =
    small_record (codes "rank") (length rank.base.list ∷ [])
    ∷ (rank_records rank ++ link_records label.list up.list depth.list)
records (Wide index basis) = small_record (codes "wide") (index ∷ basis.list) ∷ []

-- what is read of an answer
abbrev pub seen_of : Parts → Seen
seen_of (Split rank label up depth) = split_seen rank label.list
seen_of (Wide index basis) = open_seen

-- its answers
abbrev pub meant : Meant Parts Seen
meant = record {
  IsFormed = IsFormedParts;
  IsValid = AreValidParts;
  records = records;
  says = seen_of;
}

-- what is answered is what was read
abbrev pub IsSeenOf : PartsSeen → Net × Seen → Type 0
IsSeenOf seen read =
    read.1 ≡ record { undecided = seen.undecided; ranks = seen.ranks.list }

-- ---- laws

-- what is written of a formed and valid answer is a document
abbrev pub WrittenAreDocuments : Type 0
WrittenAreDocuments = (net : Net) (answer : Parts) → IsNetwork net → IsFormedParts net answer
    → AreValidParts net answer
    → IsPartDocument part meant net answer (part_document part.name net (records answer))
