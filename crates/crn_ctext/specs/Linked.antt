-- Answers and their records: what is required of the one is required of the other.
-- Source: this project's own.
use Rattle.std.specs.Prelude.{◌≡◌, ◌↔◌, ℕ, List, [], ◌∷◌}
use Rattle.crn_vec.specs.Network.{Net, IsNetwork}
use Rattle.crn_vec.specs.declared.limits.TheConstants.{MAX_BUDGET}
use Rattle.crn_cert.specs.declared.answer.Verdict.{Verdict}
use Rattle.crn_cert.specs.declared.answer.Answer.{Answer}
use Rattle.crn_cert.specs.Questions.{Question}
use Rattle.crn_cert.specs.Answers.{verdicts_of}
use Rattle.crn_cert.specs.Law.{IsTrueOrOpen}
use Rattle.crn_cert.specs.Formed.{AreFormed}
use Rattle.crn_cert.specs.TreeSizes.{HaveFewNodes}
use Rattle.crn_cert.specs.Valid.{AreValid}
use Rattle.crn_ctext.specs.Records.{Record}
pub use Rattle.crn_ctext.specs.Judged.{records_of}
use Rattle.crn_ctext.specs.Meaning.{meaning, verdicts_said}
use Rattle.crn_cert.specs.Built.{built}
use Rattle.crn_ctext.specs.Blocks.{ReadOf}
use Rattle.crn_ctext.specs.Documents.{AreValid as AreValidRecords, Share, FitsShare, share_of, document, document2}
use Rattle.crn_ctext.specs.Same.{AreSame}
use Rattle.crn_ctext.specs.Judged.{AreFormedOf, IsReadOf, IsGoodOf}

-- formed answers have formed records
abbrev pub FormedAnswersHaveFormedRecords : Type 0
FormedAnswersHaveFormedRecords =
    (net : Net) (answers : List Answer) → AreFormed net [] built answers
    → AreFormedOf net (records_of net answers)

-- formed answers are valid if and only if their records are
abbrev pub ValidAnswersHaveValidRecords : Type 0
ValidAnswersHaveValidRecords =
    (net : Net) (answers : List Answer) → AreFormed net [] built answers
    → AreValid net [] built answers
    ↔ AreValidRecords meaning built (meaning.start net) (records_of net answers)

-- formed records are those of formed answers, whose verdicts are the ones that the records say
abbrev pub FormedRecordsAreOfAnswers : Type 0
FormedRecordsAreOfAnswers =
    (net : Net) (answers : List (List Record)) → AreFormedOf net answers
    → (given : List Answer) × AreFormed net [] built given × (records_of net given ≡ answers)
    × (verdicts_said built (meaning.start net) answers ≡ verdicts_of given)

-- each question has a verdict, which is true of the network or open
abbrev pub AreSound : Net → List Question → List Verdict → Type 0
AreSound net [] verdicts = verdicts ≡ []
AreSound net (q ∷ qs) [] = ⊥
AreSound net (q ∷ qs) (v ∷ vs) = IsTrueOrOpen net q v × AreSound net qs vs

-- what valid records say is true or open
abbrev pub ValidRecordsAreTrue : Type 0
ValidRecordsAreTrue =
    (net : Net) (answers : List (List Record)) → IsNetwork net
    → AreValidRecords meaning built (meaning.start net) answers
    → AreSound net built (verdicts_said built (meaning.start net) answers)

-- what is read of a document is a network, and verdicts that are true of it or open
abbrev pub ReadDocumentsAreTrue : Type 0
ReadDocumentsAreTrue = (bytes : List ℕ) (read : ReadOf) → IsReadOf bytes read
    → IsNetwork read.net × AreSound read.net built (verdicts_said built (meaning.start read.net) read.blocks)

-- the document of a network and of valid answers, whose trees have no more nodes than a budget may
-- allow, is a good one
abbrev pub WrittenDocumentsAreGood : Type 0
WrittenDocumentsAreGood =
    (net : Net) (answers : List Answer) → IsNetwork net → AreFormed net [] built answers
    → AreValid net [] built answers → HaveFewNodes MAX_BUDGET answers
    → IsGoodOf net answers (document net (records_of net answers))

-- so it is with each share that fits the answers
abbrev pub SharedDocumentsAreGood : Type 0
SharedDocumentsAreGood =
    (net : Net) (answers : List Answer) (share : Share) → IsNetwork net
    → AreFormed net [] built answers → AreValid net [] built answers
    → HaveFewNodes MAX_BUDGET answers → FitsShare (records_of net answers) share
    → IsGoodOf net answers (document2 built net (records_of net answers) share)

-- the share that `certify` writes fits formed answers of a network
abbrev pub SharesFit : Type 0
SharesFit = (net : Net) (answers : List Answer) → IsNetwork net → AreFormed net [] built answers
    → FitsShare (records_of net answers) (share_of (records_of net answers))

-- if documents of formed answers are equal, so are their networks, and the answers are the same
abbrev pub AnswersAreOne : Type 0
AnswersAreOne =
    (net other : Net) (answers others : List Answer) → IsNetwork net → IsNetwork other
    → AreFormed net [] built answers → AreFormed other [] built others
    → document net (records_of net answers) ≡ document other (records_of other others)
    → (net ≡ other) × AreSame answers others

-- so it is with shared lists, which are also the same
abbrev pub SharedAnswersAreOne : Type 0
SharedAnswersAreOne =
    (net other : Net) (answers others : List Answer) (share another : Share)
    → IsNetwork net → IsNetwork other
    → AreFormed net [] built answers → AreFormed other [] built others
    → FitsShare (records_of net answers) share → FitsShare (records_of other others) another
    → document2 built net (records_of net answers) share
    ≡ document2 built other (records_of other others) another
    → (net ≡ other) × AreSame answers others × (share ≡ another)
