-- What is read of a document, to its end, and its first fault: with the questions and the versions
-- that are built.
-- Source: this project's own format.
use Rattle.std.specs.Prelude.{◌≡◌, ◌<◌, ℕ, List, [], ◌++◌, length}
use Rattle.std.specs.List.{AllZip}
use Rattle.crn_vec.specs.Network.{Net, IsNetwork}
use Rattle.crn_io.specs.declared.lines.TheConstants.{MAX_DOCUMENT}
use Rattle.crn_io.specs.Lines.{Place, beginning}
use Rattle.crn_cert.specs.declared.answer.Answer.{Answer}
use Rattle.crn_cert.specs.Formed.{AreFormed}
use Rattle.crn_cert.specs.Valid.{AreValid}
use Rattle.crn_ctext.specs.Answers.{all_records}
use Rattle.crn_ctext.specs.Course.{Gives}
use Rattle.crn_ctext.specs.Blocks.{ReadOf, course}
use Rattle.crn_ctext.specs.Documents.{AreFormed as AreFormedRecords, DocFault, IsDocumentOf, Share, FitsShare, document, document2}
use Rattle.crn_ctext.specs.Records.{Record}
use Rattle.crn_ctext.specs.Same.{AreSame}
use Rattle.crn_ctext.specs.Meaning.{meaning, verdicts_said, versions}
use Rattle.crn_cert.specs.Built.{built}

-- this is read of the document, to its end
abbrev pub IsReadOf : List ℕ → ReadOf → Type 0
IsReadOf bytes read =
    (after : Place) × Gives (course meaning versions built) (beginning bytes) read after

-- its first fault
abbrev pub IsFaultOf : List ℕ → (line code : ℕ) → Type 0
IsFaultOf bytes line code = DocFault meaning versions built bytes line code

-- whether and where there is a fault is open: not all texts that begin with these bytes have the same
-- first fault
abbrev pub LeavesOpen : List ℕ → Type 0
LeavesOpen bytes = (line code : ℕ) → ((rest : List ℕ) → IsFaultOf (bytes ++ rest) line code) → ⊥

-- the records of answers to the built questions
abbrev pub records_of : Net → List Answer → List (List Record)
records_of net answers = all_records meaning built (meaning.start net) answers

-- fewer bytes than the bound, and a document of a network and of formed answers to the built
-- questions, of which each decided one is valid
pub record IsGood (bytes : List ℕ) : Type 0 where
  pub short : length bytes < MAX_DOCUMENT
  pub net : Net
  pub network : IsNetwork net
  pub answers : List Answer
  pub formed : AreFormed net [] built answers
  pub valid : AreValid net [] built answers
  pub document : IsDocumentOf versions built net (records_of net answers) bytes

-- the records are those of formed answers to the built questions
abbrev pub AreFormedOf : Net → List (List Record) → Type 0
AreFormedOf net answers = AreFormedRecords meaning built (meaning.start net) answers

-- ---- laws

-- if two documents are equal, so are their networks and formed answers
abbrev pub DocumentsAreOne : Type 0
DocumentsAreOne =
    (net other : Net) (answers others : List (List Record)) → IsNetwork net → IsNetwork other
    → AreFormedOf net answers → AreFormedOf other others
    → document net answers ≡ document other others → (net ≡ other) × (answers ≡ others)

-- no text is of both versions
abbrev pub VersionsAreApart : Type 0
VersionsAreApart =
    (net other : Net) (answers others : List (List Record)) (share : Share)
    → document net answers ≡ document2 built other others share → ⊥

-- if two documents with shared lists are equal, so are their networks, formed answers and shares
abbrev pub SharedDocumentsAreOne : Type 0
SharedDocumentsAreOne =
    (net other : Net) (answers others : List (List Record)) (share another : Share)
    → IsNetwork net → IsNetwork other → AreFormedOf net answers → AreFormedOf other others
    → FitsShare answers share → FitsShare others another
    → document2 built net answers share ≡ document2 built other others another
    → (net ≡ other) × (answers ≡ others) × (share ≡ another)

-- the bytes are a good document of this network and these answers
abbrev pub IsGoodOf : Net → List Answer → List ℕ → Type 0
IsGoodOf net answers bytes =
    (good : IsGood bytes) × (good.net ≡ net) × (good.answers ≡ answers)

-- a good document is of one network and of one list of answers, with their records
abbrev pub GoodDocumentsAreOne : Type 0
GoodDocumentsAreOne = (bytes : List ℕ) (good other : IsGood bytes) → (good.net ≡ other.net)
    × (records_of good.net good.answers ≡ records_of other.net other.answers)
    × AreSame good.answers other.answers

-- the block is the records of the answer, but for the nodes of its trees
abbrev pub IsPrefixOf : List Record → List Record → Type 0
IsPrefixOf block rs = (nodes : List Record) × (rs ≡ block ++ nodes)

-- the bytes are a good document of this network; these blocks are the records of its answers but for
-- the nodes of trees, and say the same verdicts
abbrev pub IsGoodRead : Net → List (List Record) → List ℕ → Type 0
IsGoodRead net blocks bytes =
    (good : IsGood bytes) × (good.net ≡ net)
    × AllZip IsPrefixOf blocks (records_of good.net good.answers)
    × (verdicts_said built (meaning.start net) (records_of good.net good.answers)
    ≡ verdicts_said built (meaning.start net) blocks)

-- what is read of a document are the network and the answers of the good document that it is, but
-- for the nodes of trees
abbrev pub ReadDocumentsAreGood : Type 0
ReadDocumentsAreGood = (bytes : List ℕ) (read : ReadOf) → IsReadOf bytes read
    → IsGoodRead read.net read.blocks bytes
