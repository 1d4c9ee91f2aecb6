-- Documents of parts: the text of a network and of an answer to the question of a part, good
-- documents, and the first fault of a text that is none.
-- Source: this project's own format.
-- Shapes: lines count from 1. A part is what its crate hands in.
use Rattle.std.specs.Prelude.{◌≡◌, ◌≤◌, ◌<◌, ◌+◌, ◌⊎◌, ℕ, false, List, [], ◌∷◌, ◌++◌, length, codes}
use Rattle.crn_vec.specs.Network.{Net, IsNetwork}
use Rattle.crn_vec.specs.declared.limits.TheConstants.{MAX_REACTIONS}
use Rattle.crn_text.specs.Canonical.{canonical}
use Rattle.crn_io.specs.Lines.{Place, beginning}
use Rattle.crn_io.specs.declared.lines.TheConstants.{MAX_DOCUMENT}
use Rattle.crn_ctext.specs.Records.{Record, Form}
use Rattle.crn_ctext.specs.Kinds.{end_form}
use Rattle.crn_ctext.specs.Course.{Course, Give, IsReported, ◌>>=◌, ◌>>◌, due, find, test, ends, Gives, FailsFirst}
use Rattle.crn_ctext.specs.Blocks.{IsNetworkOf, asks_lines, network_line, ended, reads_of}
use Rattle.crn_cert.specs.Faults.{BadHeader, BadNetwork, WrongOrder}
use Rattle.crn_ctext.specs.Documents.{record_lines}

-- ---- what a part hands in

-- What a part is: its name, the words of its own lines with that of the last line, the numbers of its
-- own faults, and what is due after the network, from this line on. Its course gives the line after
-- it and what was read.
pub record Part (Read : Type 0) : Type 1 where
  pub name : List ℕ
  pub words : List (List ℕ)
  pub IsOwn : (number : ℕ) → Type 0
  pub lines : Net → (line : ℕ) → Course (ℕ × Read)

-- What its answers are: when one is formed and valid for a network, its records, and what is read
-- of them.
pub record Meant (Answer Read : Type 0) : Type 1 where
  pub IsFormed : Net → Answer → Type 0
  pub IsValid : Net → Answer → Type 0
  pub records : Answer → List Record
  pub says : Answer → Read

-- ---- one line

-- the line is a record of one of the forms that are due, its word one of these
abbrev pub reads_part : (words : List (List ℕ)) → (line : ℕ) → List Form → List ℕ → Course Record
reads_part words n forms line = reads_of words [] n false forms WrongOrder line

-- a record of one of these forms is due
abbrev pub asks_part : (words : List (List ℕ)) → (line : ℕ) → List Form → Course Record
asks_part words n forms = do
  line ← due false
  reads_part words n forms line

-- records of these forms are due in order
unfoldable pub asks_parts : (words : List (List ℕ)) → (line : ℕ) → List Form
    → Course (List Record)
asks_parts words n [] = Give []
asks_parts words n (form ∷ forms) = do
  r ← asks_part words n (form ∷ [])
  rs ← asks_parts words (n + 1) forms
  Give (r ∷ rs)

-- ---- a document

-- the first line
abbrev pub part_title : List ℕ → List ℕ
part_title name = codes "crn part " ++ name ++ codes " 1"

-- the lines up to the last one of the network; they give the network and the line after them
abbrev pub part_opening : List ℕ → Course (Net × ℕ)
part_opening name = do
  first ← due false
  test 1 BadHeader (first ≡ part_title name)
  second ← due false
  count ←
      find 2 BadNetwork ℕ (λ count. (1 ≤ count) × (count ≤ MAX_REACTIONS) × (second ≡ network_line count))
  lines ← asks_lines count
  net ← find (2 + count) BadNetwork Net (IsNetworkOf lines)
  Give (net, 3 + count)

-- what follows the part's own lines: the last line, and nothing after it
abbrev pub part_ending : {A : Type 0} → (words : List (List ℕ)) → (line : ℕ) → A → Course A
part_ending words n read = do
  last ← asks_part words n (end_form ∷ [])
  ends
  Give read

-- a document of the part; it gives the network and what was read
abbrev pub part_course : {Read : Type 0} → Part Read → Course (Net × Read)
part_course p = do
  opened ← part_opening p.name
  after ← p.lines opened.0 opened.1
  part_ending p.words after.0 (opened.0, after.1)

-- the first two lines, with the network's
abbrev pub part_head : (name : List ℕ) → Net → List ℕ
part_head name net =
    ended (part_title name ∷ network_line (length net.reactions) ∷ []) ++ canonical net

-- the text of a network and of these records
abbrev pub part_document : (name : List ℕ) → Net → List Record → List ℕ
part_document name net rs = part_head name net ++ record_lines rs ++ ended (codes "end" ∷ [])

-- the bytes are a document of this part, of this network and a formed answer whose tests hold, of
-- which this is read
pub record IsPartDocument {Answer Read : Type 0} (p : Part Read) (m : Meant Answer Read)
    (net : Net) (answer : Answer) (bytes : List ℕ) : Type 0 where
  pub short : length bytes < MAX_DOCUMENT
  pub network : IsNetwork net
  pub formed : m.IsFormed net answer
  pub valid : m.IsValid net answer
  pub is : bytes ≡ part_document p.name net (m.records answer)

-- this is read of the bytes, to their end
abbrev pub IsPartRead : {Read : Type 0} → Part Read → List ℕ → Net → Read → Type 0
IsPartRead p bytes net read =
    (after : Place) × Gives (part_course p) (beginning bytes) (net, read) after

-- the first fault of the bytes
abbrev pub IsPartFault : {Read : Type 0} → Part Read → List ℕ → (line code : ℕ) → Type 0
IsPartFault p bytes line code = FailsFirst (part_course p) (beginning bytes) line code

-- ---- laws

-- the bytes are a document of this part, of some network and some answer
abbrev pub IsPartGood : {Answer Read : Type 0} → Part Read → Meant Answer Read → List ℕ → Type 0
IsPartGood {Answer} p m bytes = (net : Net) × (answer : Answer) × IsPartDocument p m net answer bytes

-- Each text is a document of the part or has one first fault, never both, which is a kind of fault or
-- has a number of the part's own. What is read of a text to its end is what the answer of its document
-- says.
pub record AreJudged {Answer Read : Type 0} (p : Part Read) (m : Meant Answer Read) : Type 0 where
  pub judged : (bytes : List ℕ) → IsPartGood p m bytes
      ⊎ ((line : ℕ) × (code : ℕ) × IsPartFault p bytes line code)
  pub apart : (bytes : List ℕ) (line code : ℕ) → IsPartGood p m bytes
      → IsPartFault p bytes line code → ⊥
  pub first : (bytes : List ℕ) (line other code another : ℕ) → IsPartFault p bytes line code
      → IsPartFault p bytes other another → (line ≡ other) × (code ≡ another)
  pub coded : (bytes : List ℕ) (line code : ℕ) → IsPartFault p bytes line code
      → IsReported p.IsOwn code
  pub read : (bytes : List ℕ) (net : Net) (read : Read) → IsPartRead p bytes net read
      → (answer : Answer) × IsPartDocument p m net answer bytes × (read ≡ m.says answer)
  pub good : (bytes : List ℕ) (net : Net) (answer : Answer) → IsPartDocument p m net answer bytes
      → IsPartRead p bytes net (m.says answer)
