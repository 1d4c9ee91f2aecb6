-- For the contracts of private functions alone. What is known of answers to questions in order.
-- Source: this project's own.
-- Shapes: `earlier` holds the verdicts on earlier questions.
use Rattle.std.specs.Prelude.{◌≡◌, ℕ, List, [], ◌∷◌, ◌++◌, take, zip, IsSomeAnd}
use Rattle.std.specs.List.{AllByRecursion}
use Rattle.crn_vec.specs.Network.{Net}
use Rattle.crn_vec.specs.NetSignals.{HasNoSignal}
use Rattle.crn_cert.specs.declared.answer.Answer.{Answer}
use Rattle.crn_cert.specs.declared.answer.Verdict.{Verdict}
use Rattle.crn_cert.specs.Answers.{verdicts_of}
use Rattle.crn_cert.specs.Answered.{IsAnswer}
use Rattle.crn_cert.specs.Built.{built}
use Rattle.crn_cert.specs.Licensed.{IsLicensedBudget}
use Rattle.crn_cert.specs.Questions.{Earlier, Question, IsOpen, on, vector_given, Q1, Q2, Q3, Q4, Q5, Q6, Q7, Q8, Q9, Q10, Q11, Q12, Q13, Q14, Q15}
use Rattle.crn_cert.specs.Verdicts.{tight}
use Rattle.crn_cert.specs.TreeSizes.{HaveFewNodes}
use Rattle.crn_shelf.specs.Order.{IsForNegative}
use Rattle.crn_solve.specs.Visits.{AllListVisits}

-- an answer to each question, after the earlier verdicts and those of the answers before, whose
-- lists count without their spares
abbrev pub AreAnswers : Net → ℕ → Earlier → List Question → List Answer → Type 0
AreAnswers net budget earlier [] [] = Unit {0}
AreAnswers net budget earlier (q ∷ qs) (answer ∷ answers) = IsAnswer net budget earlier q answer
    × AreAnswers net budget (earlier ++ (q, tight answer.verdict) ∷ []) qs answers
AreAnswers net budget earlier qs answers = ⊥

-- the first four verdicts are not open
abbrev pub FirstAreDecided : List Verdict → Type 0
FirstAreDecided verdicts = AllByRecursion (λ v. IsOpen v → ⊥) (take 4 verdicts)

-- question 13 is open if the visits for the vector of question 12, or then for its negative, exceed the budget
abbrev pub IsOpenIfSpent : Net → ℕ → List Verdict → Type 0
IsOpenIfSpent net budget verdicts = let given = zip built verdicts in
    IsLicensedBudget net given Q13 budget → IsOpen (on given Q13)

-- the last two of these verdicts are those on concordance
abbrev pub AreOnConcordance : Verdict → Verdict → List Verdict → Type 0
AreOnConcordance concordant strongly verdicts = let given = zip built verdicts in
    (on given Q14 ≡ concordant) × (on given Q15 ≡ strongly)

-- a signal for the negative of the vector of question 12 is found only if the vector has none
abbrev pub IsVectorFirst : Net → List Verdict → Type 0
IsVectorFirst net verdicts = let given = zip built verdicts in
    IsForNegative (on given Q13) →
    IsSomeAnd (vector_given (on given Q12)) (HasNoSignal net)

-- the questions before the two on concordance
abbrev pub first_questions : List Question
first_questions = Q1 ∷ Q2 ∷ Q3 ∷ Q4 ∷ Q5 ∷ Q6 ∷ Q7 ∷ Q8 ∷ Q9 ∷ Q10 ∷ Q11 ∷ Q12 ∷ Q13 ∷ []

-- answers to the questions before the two on concordance, whatever verdicts follow
pub record AreFirstAnswers (net : Net) (budget : ℕ) (answers : List Answer) : Type 0 where
  pub all : AreAnswers net budget [] first_questions answers
  pub nodes : HaveFewNodes budget answers
  pub decided : (more : List Verdict) → FirstAreDecided (verdicts_of answers ++ more)
  pub spent : (more : List Verdict) → IsOpenIfSpent net budget (verdicts_of answers ++ more)
  pub first : (more : List Verdict) → IsVectorFirst net (verdicts_of answers ++ more)
  pub visits : (more : List Verdict) → AllListVisits net (verdicts_of answers ++ more)
      first_questions answers
  pub last : (concordant strongly : Verdict) → AreOnConcordance concordant strongly
      (verdicts_of answers ++ concordant ∷ strongly ∷ [])
