-- That a search is not continued once its budget is spent.
-- Source: this project's own. Shapes: `verdicts` are those on the questions that are built, in order.
use Rattle.std.specs.Prelude.{ℕ, List, zip}
use Rattle.crn_vec.specs.Network.{Net}
use Rattle.crn_cert.specs.declared.answer.Verdict.{Verdict}
use Rattle.crn_cert.specs.Built.{built}
use Rattle.crn_cert.specs.Licensed.{IsLicensedBudget}
use Rattle.crn_cert.specs.Questions.{Question, IsOpen, on}

-- each question is open if the visits of its search exceed the budget
abbrev pub AreOpenIfSpent : Net → ℕ → List Verdict → Type 0
AreOpenIfSpent net budget verdicts = let given = zip built verdicts in
    (q : Question) → IsLicensedBudget net given q budget → IsOpen (on given q)
