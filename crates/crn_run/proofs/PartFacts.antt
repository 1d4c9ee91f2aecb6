-- What holds of the parts: their documents are judged, their faults have names, and their verdicts are short.
use Rattle.crn_run.proofs.Prelude.{◌≡◌, ◌⊎◌, ℕ, ◌<◌, List, length, ap, ap₂, subst, ◌∙◌, sym, inl, inr, arith, Net, IsNetwork, beginning, MAX_DOCUMENT, fault_number, BadHeader, BadNetwork, UnknownWord, BadField, NumberWide, WrongOrder, EndsEarly, AfterEnd, DocumentTooLong, LineTooLong, WrongClasses, WrongWalk, NotIndependent, NotSpanned, BadVector, WrongNumber, WrongVerdict, BadLeaf, NodeNotAllowed, TreeEndsEarly, TreeGoesOn, BadEvidence, WrongShape, IsReported, IsSettled, AreJudged, IsPartFault, documents_are_judged, gives_one, IsDocumentCode, Outcome, No, Undecided, persist_settled, persist_is_answered, parts_settled, parts_is_answered, IsFaultyOf, IsGoodOf, IsVerdictOf, IsPartRejectionOf, Subject, course_of, persist_verdict, subject_of, rejected_line, PartName, Persist, Robust, Decomposition, Endo, robust_settled, robust_is_answered, endo_settled, endo_is_answered}
use Rattle.crn_cert.specs.Faults.{Fault}
use Rattle.crn_siphon_check.specs.declared.answer.Outcome.TheVariants.{Yes}
use Rattle.crn_siphon_text.specs.Document as persist
use Rattle.crn_indep_text.specs.Document as parts
use Rattle.crn_robust_text.specs.Document as robust
use Rattle.crn_run.proofs.Robustness.{robustness_short}
use Rattle.crn_endo_text.specs.Document as endo
use Rattle.crn_run.proofs.Endotactic.{endotactic_short}
use Rattle.crn_run.proofs.Decompositions.{decomposition_short}

-- what is known of a part
pub record IsKnown (s : Subject) : Type 0 where
  pub settled : IsSettled s.part.IsOwn (course_of s)
  pub judged : AreJudged s.part s.meant
  pub named : (code : ℕ) → s.part.IsOwn code → IsDocumentCode code
  pub short : (net : Net) (answer : s.Answer) → IsNetwork net → s.meant.IsFormed net answer → length (s.verdict net (s.meant.says answer)) < MAX_DOCUMENT

persist_short : (outcome : Outcome) → length (persist_verdict outcome) < MAX_DOCUMENT
persist_short Yes = omega arith
persist_short No = omega arith
persist_short Undecided = omega arith

pub facts : (part : PartName) → IsKnown (subject_of part)
facts Persist = record {
  settled = persist_settled;
  judged = documents_are_judged persist.part persist.meant persist_is_answered persist_settled;
  named = λ code own. inr (inr (inl (own.0, omega (arith, own.1))));
  short = λ net answer is formed. persist_short (persist.outcome_of answer);
}
facts Decomposition = record {
  settled = parts_settled;
  judged = documents_are_judged parts.part parts.meant parts_is_answered parts_settled;
  named = λ code own. inr (inr (inr (inl (own.0, own.1))));
  short = decomposition_short;
}
facts Robust = record {
  settled = robust_settled;
  judged = documents_are_judged robust.part robust.meant robust_is_answered robust_settled;
  named = λ code own. inr (inr (inl (omega (arith, own.0), own.1)));
  short = robustness_short;
}
facts Endo = record {
  settled = endo_settled;
  judged = documents_are_judged endo.part endo.meant endo_is_answered endo_settled;
  named = λ code own. inr (inr (inr (inr (own.0, own.1))));
  short = endotactic_short;
}

-- ---- names of faults

kind_named : (fault : Fault) → IsDocumentCode (fault_number fault)
kind_named BadHeader = inl (omega arith, omega arith)
kind_named BadNetwork = inl (omega arith, omega arith)
kind_named UnknownWord = inl (omega arith, omega arith)
kind_named BadField = inl (omega arith, omega arith)
kind_named NumberWide = inl (omega arith, omega arith)
kind_named WrongOrder = inl (omega arith, omega arith)
kind_named EndsEarly = inl (omega arith, omega arith)
kind_named AfterEnd = inl (omega arith, omega arith)
kind_named DocumentTooLong = inl (omega arith, omega arith)
kind_named LineTooLong = inl (omega arith, omega arith)
kind_named WrongClasses = inl (omega arith, omega arith)
kind_named WrongWalk = inl (omega arith, omega arith)
kind_named NotIndependent = inl (omega arith, omega arith)
kind_named NotSpanned = inl (omega arith, omega arith)
kind_named BadVector = inl (omega arith, omega arith)
kind_named WrongNumber = inl (omega arith, omega arith)
kind_named WrongVerdict = inl (omega arith, omega arith)
kind_named BadLeaf = inr (inl (omega arith, omega arith))
kind_named NodeNotAllowed = inr (inl (omega arith, omega arith))
kind_named TreeEndsEarly = inr (inl (omega arith, omega arith))
kind_named TreeGoesOn = inr (inl (omega arith, omega arith))
kind_named BadEvidence = inr (inl (omega arith, omega arith))
kind_named WrongShape = inr (inl (omega arith, omega arith))

reported_named : (own : ℕ → Type 0) (code : ℕ) → ((number : ℕ) → own number → IsDocumentCode number) → IsReported own code → IsDocumentCode code
reported_named own code named (inl (fault, is)) = subst IsDocumentCode (sym is) (kind_named fault)
reported_named own code named (inr mine) = named code mine

-- the first fault of a text as a document of the part has a name
pub fault_named : (part : PartName) (text : List ℕ) (line code : ℕ) → IsPartFault (subject_of part).part text line code → IsDocumentCode code
fault_named part text line code fault =
    let f = facts part in
    let judged = f.judged in
    let named = f.named in
    reported_named (subject_of part).part.IsOwn code named (judged.coded text line code fault)

-- ---- one line for each text

one_verdict : (part : PartName) (text out other : List ℕ) → IsVerdictOf (subject_of part) text out → IsVerdictOf (subject_of part) text other → out ≡ other
one_verdict part text out other p q =
    let s = subject_of part in
    let f = facts part in
    let judged = f.judged in
    let first = judged.good text p.net p.answer p.document in
    let second = judged.good text q.net q.answer q.document in
    let same = gives_one s.part.IsOwn (course_of s) f.settled (beginning text) first.0 second.0 (p.net, s.meant.says p.answer) (q.net, s.meant.says q.answer) first.1 second.1 in
    p.written ∙ ap (λ (y : Net × s.Read). s.verdict y.0 y.1) same.0 ∙ sym q.written

one_part_rejection : (part : PartName) (text out other : List ℕ) → IsPartRejectionOf (subject_of part) text out → IsPartRejectionOf (subject_of part) text other → out ≡ other
one_part_rejection part text out other p q =
    let f = facts part in
    let judged = f.judged in
    let same = judged.first text p.line q.line p.code q.code p.fault q.fault in
    p.written ∙ ap₂ (λ (line code : ℕ). rejected_line code line) same.0 same.1 ∙ sym q.written

-- a document of the part has no fault as one
pub good_or_faulty_of : (part : PartName) (text : List ℕ) → IsGoodOf part text → IsFaultyOf part text → ⊥
good_or_faulty_of part text good (line, code, fault) = let f = facts part in let judged = f.judged in judged.apart text line code good fault

pub verdict_good : (part : PartName) (text out : List ℕ) → IsVerdictOf (subject_of part) text out → IsGoodOf part text
verdict_good part text out p = (p.net, p.answer, p.document)

pub rejection_faulty : (part : PartName) (text out : List ℕ) → IsPartRejectionOf (subject_of part) text out → IsFaultyOf part text
rejection_faulty part text out p = (p.line, p.code, p.fault)

-- what `verify` writes for a text is one line
pub one_of_verdicts : (part : PartName) (text out other : List ℕ) → IsVerdictOf (subject_of part) text out ⊎ IsPartRejectionOf (subject_of part) text out
    → IsVerdictOf (subject_of part) text other ⊎ IsPartRejectionOf (subject_of part) text other → out ≡ other
one_of_verdicts part text out other (inl p) (inl q) = one_verdict part text out other p q
one_of_verdicts part text out other (inl p) (inr q) = absurd (good_or_faulty_of part text (verdict_good part text out p) (rejection_faulty part text other q))
one_of_verdicts part text out other (inr p) (inl q) = absurd (good_or_faulty_of part text (verdict_good part text other q) (rejection_faulty part text out p))
one_of_verdicts part text out other (inr p) (inr q) = one_part_rejection part text out other p q
