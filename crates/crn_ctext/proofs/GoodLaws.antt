-- Documents of valid answers are good, good documents are of one network and one list of answers, and what is read of them is true.
use Rattle.crn_ctext.proofs.Prelude.{◌≡◌, List, [], refl, sym, ap, subst, inl, inr, ◌∙◌, Net, IsNetwork, Answer, Verdict, built, Record, IsDocumentOf, meaning, versions, AreFormedOf, GoodDocumentsAreOne, AreSame, records_of, AreSound, AnswersAreOne, SharedAnswersAreOne, ReadDocumentsAreTrue, WrittenDocumentsAreGood, SharedDocumentsAreGood, SharesFit}
use Rattle.crn_cert.specs.Formed.{AreFormed}
use Rattle.crn_ctext.specs.Documents as documents
use Rattle.crn_ctext.proofs.DocumentsGood.{read_is_of}
use Rattle.crn_ctext.proofs.WrittenAnswers.{share_fits}
use Rattle.crn_ctext.proofs.FewNodes.{document_short, document2_short}
use Rattle.crn_ctext.proofs.DocumentsOne.{document_one, second_document_one, versions_apart}
use Rattle.crn_ctext.proofs.AnswersLinked.{answers_formed, answers_valid, answers_same}
use Rattle.crn_ctext.proofs.TrueRecords.{records_true}

-- ---- what is written

pub written_good : WrittenDocumentsAreGood
written_good net answers n f v few =
    (record { short = document_short net answers n f few; net = net; network = n; answers = answers; formed = f; valid = v; document = inl (inl refl, refl) }, refl, refl)

pub shared_good : SharedDocumentsAreGood
shared_good net answers share n f v few fits =
    (record { short = document2_short net answers share n f few fits; net = net; network = n; answers = answers; formed = f; valid = v; document = inr (inr (inl refl), (share, fits, refl)) }, refl, refl)

pub shares_fit : SharesFit
shares_fit net answers n f = share_fits net answers n f

-- ---- what is good

-- answers with the same records are the same
same_answers : (net other : Net) (answers others : List Answer) → AreFormed net [] built answers → AreFormed other [] built others → net ≡ other → records_of net answers ≡ records_of other others → AreSame answers others
same_answers net other answers others f g e r =
    let there : AreFormed net [] built others = subst (λ (x : Net). AreFormed x [] built others) (sym e) g in
    answers_same net answers others f there (r ∙ ap (λ (x : Net). records_of x others) (sym e))

pub good_one : GoodDocumentsAreOne
good_one bytes g h = let one = by g.document h.document in (one.0, one.1, same_answers g.net h.net g.answers h.answers g.formed h.formed one.0 one.1)
  where
    first : List (List Record)
    first = records_of g.net g.answers

    second : List (List Record)
    second = records_of h.net h.answers

    a : AreFormedOf g.net first
    a = answers_formed g.net g.answers g.formed

    b : AreFormedOf h.net second
    b = answers_formed h.net h.answers h.formed

    by : IsDocumentOf versions built g.net first bytes → IsDocumentOf versions built h.net second bytes → (g.net ≡ h.net) × (first ≡ second)
    by (inl x) (inl y) = document_one g.net h.net first second g.network h.network a b (sym x.1 ∙ y.1)
    by (inl x) (inr y) = absurd (versions_apart g.net h.net first second y.1.0 (sym x.1 ∙ y.1.2))
    by (inr x) (inl y) = absurd (versions_apart h.net g.net second first x.1.0 (sym y.1 ∙ x.1.2))
    by (inr x) (inr y) = let one = second_document_one g.net h.net first second x.1.0 y.1.0 g.network h.network a b x.1.1 y.1.1 (sym x.1.2 ∙ y.1.2) in (one.0, one.1)

-- if two documents are equal, their answers are the same
pub answers_one : AnswersAreOne
answers_one net other answers others n k f g e =
    let one = document_one net other (records_of net answers) (records_of other others) n k (answers_formed net answers f) (answers_formed other others g) e in
    (one.0, same_answers net other answers others f g one.0 one.1)

pub shared_answers_one : SharedAnswersAreOne
shared_answers_one net other answers others share another n k f g fits gits e =
    let one = second_document_one net other (records_of net answers) (records_of other others) share another n k (answers_formed net answers f) (answers_formed other others g) fits gits e in
    (one.0, same_answers net other answers others f g one.0 one.1, one.2)

-- what is read of a document is true or open
pub read_true : ReadDocumentsAreTrue
read_true bytes read p =
    let g = read_is_of bytes read p in
    let n : IsNetwork read.net = subst IsNetwork g.1 g.0.network in
    let rs = records_of g.0.net g.0.answers in
    let valid = subst (λ (net : Net). documents.AreValid meaning built (meaning.start net) rs) g.1 (answers_valid g.0.net g.0.answers g.0.formed g.0.valid) in
    (n, subst (λ (vs : List Verdict). AreSound read.net built vs) g.3 (records_true read.net rs n valid))
