-- What the answer to a question on concordance holds, with a tree or without.
-- Source: this project's own. Shapes: `earlier` holds the verdicts on earlier questions; `table` is the
-- influence table that the question is on.
use Rattle.std.specs.Prelude.{◌≡◌, ℕ, Bool, true, false, List}
use Rattle.crn_vec.specs.declared.signs.Sign.{Sign}
use Rattle.crn_vec.specs.Network.{Net}
use Rattle.crn_vec.specs.NetSystems.{reaction_system}
use Rattle.crn_vec.specs.Concordance.{concordance}
use Rattle.crn_vec.specs.Visits.{PassesBudget}
use Rattle.crn_cert.specs.declared.answer.Answer.{Answer}
use Rattle.crn_cert.specs.Answered.{IsAnswer}
use Rattle.crn_cert.specs.Questions.{Earlier, IsOpen, Question}
use Rattle.crn_cert.specs.TreeSizes.{HasFewNodes}
use Rattle.crn_conc.specs.Visits.{ListsTableVisits}

-- an answer after every list of earlier verdicts, whose trees have at most this many nodes and list
-- the visits of the search over the table, and which is open if they exceed the budget
pub record IsTableAnswer (net : Net) (budget : ℕ) (q : Question) (table : List (List Sign))
    (answer : Answer) : Type 0 where
  pub is : (earlier : Earlier) → IsAnswer net budget earlier q answer
  pub few : HasFewNodes budget answer.proof
  pub visits : ListsTableVisits net table answer.proof
  pub spent : PassesBudget (concordance (reaction_system net) table) budget
      → IsOpen answer.verdict

-- the answer is such a one, or, if no trees are kept, has the verdict of such a one
abbrev pub AnswersTable : Bool → Net → ℕ → Question → List (List Sign) → Answer → Type 0
AnswersTable true net budget q table answer = IsTableAnswer net budget q table answer
AnswersTable false net budget q table answer = (whole : Answer)
    × (answer.verdict ≡ whole.verdict) × IsTableAnswer net budget q table whole
