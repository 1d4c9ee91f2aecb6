-- Answers to all questions, each after the ones before, are formed, valid, and true or licensed.
use Rattle.crn_solve.proofs.Prelude.{ℕ, List, [], ◌∷◌, ◌++◌, Net, Answer, Verdict, Unknown, Earlier, Question, IsOpen, verdicts_of, IsTrueOf, AreFormed, AreValid, IsTrueOrLicensed, AllTrueOrLicensed, IsAnswer, tight, IsDecidedAnswer, AreAnswers}

pub are_formed : (net : Net) (budget : ℕ) (earlier : Earlier) (qs : List Question) (answers : List Answer) → AreAnswers net budget earlier qs answers → AreFormed net earlier qs answers
are_formed net budget earlier [] [] h = tt
are_formed net budget earlier [] (a ∷ more) h = absurd h
are_formed net budget earlier (q ∷ qs) [] h = absurd h
are_formed net budget earlier (q ∷ qs) (a ∷ more) h = (h.0.formed, are_formed net budget (earlier ++ (q, tight a.verdict) ∷ []) qs more h.1)

pub are_valid : (net : Net) (budget : ℕ) (earlier : Earlier) (qs : List Question) (answers : List Answer) → AreAnswers net budget earlier qs answers → AreValid net earlier qs answers
are_valid net budget earlier [] [] h = tt
are_valid net budget earlier [] (a ∷ more) h = absurd h
are_valid net budget earlier (q ∷ qs) [] h = absurd h
are_valid net budget earlier (q ∷ qs) (a ∷ more) h = (h.0.valid, are_valid net budget (earlier ++ (q, tight a.verdict) ∷ []) qs more h.1)

pub are_answered : (net : Net) (budget : ℕ) (earlier : Earlier) (qs : List Question) (answers : List Answer) → AreAnswers net budget earlier qs answers → AllTrueOrLicensed net budget earlier qs (verdicts_of answers)
are_answered net budget earlier [] [] h = tt
are_answered net budget earlier [] (a ∷ more) h = absurd h
are_answered net budget earlier (q ∷ qs) [] h = absurd h
are_answered net budget earlier (q ∷ qs) (a ∷ more) h = (h.0.answered, are_answered net budget (earlier ++ (q, tight a.verdict) ∷ []) qs more h.1)

true_or_licensed : (net : Net) (budget : ℕ) (earlier : Earlier) (q : Question) (v : Verdict) → (IsOpen v → ⊥) → IsTrueOf net q v → IsTrueOrLicensed net budget earlier q v
true_or_licensed net budget earlier q (Unknown gap) d t = absurd (d tt)
true_or_licensed net budget earlier q v d t = t

-- a decided answer is an answer
pub answer_of : (net : Net) (budget : ℕ) (earlier : Earlier) (q : Question) (answer : Answer) → IsDecidedAnswer net earlier q answer → IsAnswer net budget earlier q answer
answer_of net budget earlier q answer h = record { formed = h.formed; valid = h.valid; answered = true_or_licensed net budget earlier q answer.verdict h.decided h.true_of }
