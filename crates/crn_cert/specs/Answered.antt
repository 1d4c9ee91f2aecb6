-- What the answer to a question is.
-- Source: this project's own.
-- Shapes: `earlier` holds the verdicts on earlier questions, each with its question.
use Rattle.std.specs.Prelude.{ℕ}
use Rattle.crn_vec.specs.Network.{Net}
use Rattle.crn_cert.specs.declared.answer.Answer.{Answer}
use Rattle.crn_cert.specs.Questions.{Earlier, Question}
use Rattle.crn_cert.specs.Formed.{IsFormed}
use Rattle.crn_cert.specs.Valid.{IsValid}
use Rattle.crn_cert.specs.Licensed.{IsTrueOrLicensed}

-- a formed and valid answer whose verdict is true, or open and licensed
pub record IsAnswer (net : Net) (budget : ℕ) (earlier : Earlier) (q : Question)
    (answer : Answer) : Type 0 where
  pub formed : IsFormed net earlier q answer
  pub valid : IsValid net earlier q answer
  pub answered : IsTrueOrLicensed net budget earlier q answer.verdict
