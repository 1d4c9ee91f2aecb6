-- From the answers to a network's questions to what a command writes for its text.
use Rattle.crn_run.proofs.Prelude.{◌≡◌, ℕ, List, [], ◌∷◌, ◌++◌, refl, ap, subst, inr, Net, SinkSeen, WroteAll, WrotePrefix, Verdict, verdicts_of, built, Earlier, Question, tight, AreFormed, AreFormedVerdicts, AreValid, HaveFewNodes, formed_answers_have_formed_verdicts, IsGood, IsPartDocument, Spells, render, summary, sample_text, HaveNodeForEachVisit, Answer, IsLeftBy, IsProofOf, subject_of, AreAnswersOf, AreLeftBy, HasOpen, certificate, IsCertificateOf, IsOutput, IsReportOf, IsSummaryOf, LineGives, OutputGives, Report, Certify, Sample, Prove, PartName, Status, WriteFault}
use Rattle.crn_run.proofs.Statuses.{by_left, left_as}

-- the verdicts of formed answers are formed
pub answers_formed : (net : Net) (earlier : Earlier) (qs : List Question) (answers : List Answer) → AreFormed net earlier qs answers → AreFormedVerdicts net earlier qs (verdicts_of answers)
answers_formed net earlier [] [] f = tt
answers_formed net earlier [] (a ∷ more) f = absurd f
answers_formed net earlier (q ∷ qs) [] f = absurd f
answers_formed net earlier (q ∷ qs) (a ∷ more) f = (formed_answers_have_formed_verdicts net earlier q a.verdict a.proof f.0, answers_formed net (earlier ++ (q, tight a.verdict) ∷ []) qs more f.1)

report_is_output : (budget : ℕ) (whole : Status) (text out : List ℕ) (answers : List Answer) → AreLeftBy whole answers → IsReportOf budget text out answers → IsOutput (Report budget) whole text out
report_is_output budget whole text out answers left r = by_left (HasOpen (verdicts_of answers)) (λ s. IsOutput (Report budget) s text out) whole left (λ l. (answers, l, r)) (λ l. (answers, l, r))

certificate_is_output : (budget : ℕ) (whole : Status) (text out : List ℕ) (answers : List Answer) → AreLeftBy whole answers → IsCertificateOf budget text out answers → IsOutput (Certify budget) whole text out
certificate_is_output budget whole text out answers left r = by_left (HasOpen (verdicts_of answers)) (λ s. IsOutput (Certify budget) s text out) whole left (λ l. (answers, l, r)) (λ l. (answers, l, r))

-- a text that was written whole is written with the status that it has
whole_is_written : (Open : Type 0) (whole : Status) (out : List ℕ) (old new : SinkSeen) → IsLeftBy Open whole → WroteAll out old new → LineGives whole whole out old new
whole_is_written Open whole out old new left w = by_left Open (λ s. LineGives s s out old new) whole left (λ l. (refl, w)) (λ l. (refl, w))

reported : (budget : ℕ) (text : List ℕ) (net : Net) (answers : List Answer) → AreAnswersOf budget text net answers → AreValid net [] built answers → IsReportOf budget text (render built net (verdicts_of answers)) answers
reported budget text net answers says valid = record { net = net; says = says; valid = valid; written = refl }

pub report_gives : (budget : ℕ) (whole : Status) (text : List ℕ) (net : Net) (answers : List Answer) (verdicts : List Verdict) (old new : SinkSeen) → verdicts ≡ verdicts_of answers
    → AreAnswersOf budget text net answers → AreValid net [] built answers → AreLeftBy whole answers → WroteAll (render built net verdicts) old new → OutputGives (Report budget) whole text old new
report_gives budget whole text net answers verdicts old new e says valid left w =
    let here : WroteAll (render built net (verdicts_of answers)) old new = subst (λ (vs : List Verdict). WroteAll (render built net vs) old new) e w in
    inr (whole, render built net (verdicts_of answers), report_is_output budget whole text (render built net (verdicts_of answers)) answers left (reported budget text net answers says valid), whole_is_written (HasOpen (verdicts_of answers)) whole (render built net (verdicts_of answers)) old new left here)

pub report_broken : (budget : ℕ) (whole : Status) (text : List ℕ) (net : Net) (answers : List Answer) (verdicts : List Verdict) (old new : SinkSeen) → verdicts ≡ verdicts_of answers
    → AreAnswersOf budget text net answers → AreValid net [] built answers → AreLeftBy whole answers → WrotePrefix (render built net verdicts) old new → OutputGives (Report budget) WriteFault text old new
report_broken budget whole text net answers verdicts old new e says valid left w =
    let here : WrotePrefix (render built net (verdicts_of answers)) old new = subst (λ (vs : List Verdict). WrotePrefix (render built net vs) old new) e w in
    inr (whole, render built net (verdicts_of answers), report_is_output budget whole text (render built net (verdicts_of answers)) answers left (reported budget text net answers says valid), here)

certified : (budget : ℕ) (text : List ℕ) (net : Net) (answers : List Answer) → AreAnswersOf budget text net answers → AreValid net [] built answers → HaveFewNodes budget answers → HaveNodeForEachVisit net answers → IsGood (certificate net answers) → IsCertificateOf budget text (certificate net answers) answers
certified budget text net answers says valid few visits good = record { net = net; says = says; valid = valid; few = few; visits = visits; written = refl; good = good }

pub certificate_gives : (budget : ℕ) (whole : Status) (text : List ℕ) (net : Net) (answers : List Answer) (out : List ℕ) (old new : SinkSeen) → out ≡ certificate net answers → AreAnswersOf budget text net answers
    → AreValid net [] built answers → HaveFewNodes budget answers → HaveNodeForEachVisit net answers → IsGood (certificate net answers) → AreLeftBy whole answers → WroteAll out old new → OutputGives (Certify budget) whole text old new
certificate_gives budget whole text net answers out old new e says valid few visits good left w =
    let here : WroteAll (certificate net answers) old new = subst (λ (t : List ℕ). WroteAll t old new) e w in
    inr (whole, certificate net answers, certificate_is_output budget whole text (certificate net answers) answers left (certified budget text net answers says valid few visits good), whole_is_written (HasOpen (verdicts_of answers)) whole (certificate net answers) old new left here)

pub certificate_broken : (budget : ℕ) (whole : Status) (text : List ℕ) (net : Net) (answers : List Answer) (out : List ℕ) (old new : SinkSeen) → out ≡ certificate net answers → AreAnswersOf budget text net answers
    → AreValid net [] built answers → HaveFewNodes budget answers → HaveNodeForEachVisit net answers → IsGood (certificate net answers) → AreLeftBy whole answers → WrotePrefix out old new → OutputGives (Certify budget) WriteFault text old new
certificate_broken budget whole text net answers out old new e says valid few visits good left w =
    let here : WrotePrefix (certificate net answers) old new = subst (λ (t : List ℕ). WrotePrefix t old new) e w in
    inr (whole, certificate net answers, certificate_is_output budget whole text (certificate net answers) answers left (certified budget text net answers says valid few visits good), here)

-- what is known of the answers of a sample network
pub record AreSampled (number budget : ℕ) (net : Net) (answers : List Answer) : Type 0 where
  pub says : AreAnswersOf budget (sample_text number) net answers
  pub valid : AreValid net [] built answers
  pub few : HaveFewNodes budget answers
  pub visits : HaveNodeForEachVisit net answers
  pub good : IsGood (certificate net answers)

summarized : (number budget : ℕ) (net : Net) (answers : List Answer) (out : List ℕ) → AreSampled number budget net answers → out ≡ summary number net (verdicts_of answers) → IsSummaryOf number budget out answers
unfolding certified
summarized number budget net answers out a e = record { document = certificate net answers; certified = certified budget (sample_text number) net answers a.says a.valid a.few a.visits a.good; written = e }

pub summary_gives : (number budget : ℕ) (whole : Status) (text : List ℕ) (net : Net) (answers : List Answer) (verdicts : List Verdict) (old new : SinkSeen) → verdicts ≡ verdicts_of answers
    → AreSampled number budget net answers → AreLeftBy whole answers → WroteAll (summary number net verdicts) old new → OutputGives (Sample number budget) whole text old new
summary_gives number budget whole text net answers verdicts old new e a left w =
    let out = summary number net verdicts in
    let is = summarized number budget net answers out a (ap (summary number net) e) in
    inr (whole, out, (answers, left, is), whole_is_written (HasOpen (verdicts_of answers)) whole out old new left w)

pub summary_broken : (number budget : ℕ) (whole : Status) (text : List ℕ) (net : Net) (answers : List Answer) (verdicts : List Verdict) (old new : SinkSeen) → verdicts ≡ verdicts_of answers
    → AreSampled number budget net answers → AreLeftBy whole answers → WrotePrefix (summary number net verdicts) old new → OutputGives (Sample number budget) WriteFault text old new
summary_broken number budget whole text net answers verdicts old new e a left w =
    let out = summary number net verdicts in
    let is = summarized number budget net answers out a (ap (summary number net) e) in
    inr (whole, out, (answers, left, is), w)

-- ---- documents of parts

-- the document of an answer that is true and allowed is what `prove` writes
pub proof_of : (part : PartName) (budget : ℕ) (Open : Type 0) (status : Status) (text out : List ℕ) (net : Net) (answer : (subject_of part).Answer) → Spells text net → (subject_of part).IsTrueOf net answer
    → (subject_of part).IsLicensed net budget answer → IsPartDocument (subject_of part).part (subject_of part).meant net answer out
    → (Open → (subject_of part).IsOpen ((subject_of part).meant.says answer)) → ((subject_of part).IsOpen ((subject_of part).meant.says answer) → Open) → IsLeftBy Open status → IsProofOf (subject_of part) budget status text out
proof_of part budget Open status text out net answer spells true_of licensed document there back left = record {
  net = net;
  answer = answer;
  spells = spells;
  true_of = true_of;
  licensed = licensed;
  left = left_as Open ((subject_of part).IsOpen ((subject_of part).meant.says answer)) status there back left;
  document = document;
}

proof_is_output : (part : PartName) (budget : ℕ) (whole : Status) (text out : List ℕ) → IsProofOf (subject_of part) budget whole text out → IsOutput (Prove part budget) whole text out
proof_is_output part budget whole text out p =
    by_left ((subject_of part).IsOpen ((subject_of part).meant.says p.answer)) (λ s. IsOutput (Prove part budget) s text out) whole p.left
    (λ l. record { net = p.net; answer = p.answer; spells = p.spells; true_of = p.true_of; licensed = p.licensed; left = l; document = p.document })
    (λ l. record { net = p.net; answer = p.answer; spells = p.spells; true_of = p.true_of; licensed = p.licensed; left = l; document = p.document })

pub proof_gives : (part : PartName) (budget : ℕ) (whole : Status) (text out : List ℕ) (old new : SinkSeen) → IsProofOf (subject_of part) budget whole text out → WroteAll out old new → OutputGives (Prove part budget) whole text old new
proof_gives part budget whole text out old new p w =
    inr (whole, out, proof_is_output part budget whole text out p, whole_is_written ((subject_of part).IsOpen ((subject_of part).meant.says p.answer)) whole out old new p.left w)

pub proof_broken : (part : PartName) (budget : ℕ) (whole : Status) (text out : List ℕ) (old new : SinkSeen) → IsProofOf (subject_of part) budget whole text out → WrotePrefix out old new → OutputGives (Prove part budget) WriteFault text old new
proof_broken part budget whole text out old new p w = inr (whole, out, proof_is_output part budget whole text out p, w)
