-- That the trees of answers are as long as the searches.
-- Source: this project's own. Shapes: `answers` are those to the questions that are built, in order.
use Rattle.std.specs.Prelude.{ℤ, Option, IfSome, List, zip}
use Rattle.std.specs.List.{AllZip}
use Rattle.crn_vec.specs.Network.{Net}
use Rattle.crn_vec.specs.Influence.{plain_table, strong_table}
use Rattle.crn_cert.specs.declared.answer.Answer.{Answer}
use Rattle.crn_cert.specs.declared.answer.Proof.{Proof}
use Rattle.crn_cert.specs.declared.answer.Verdict.{Verdict}
use Rattle.crn_cert.specs.Answers.{verdicts_of}
use Rattle.crn_cert.specs.Built.{built}
use Rattle.crn_cert.specs.Questions.{Question, Q12, Q13, Q14, Q15, on, vector_given}
use Rattle.crn_conc.specs.Visits.{ListsTableVisits}
use Rattle.crn_shelf.specs.Visits.{ListSignalVisits}

-- the trees of a proof list the visits of the searches of its question, of which that on signals is
-- for this vector
abbrev pub ListVisitsOf : Net → Option (List ℤ) → Question → Proof → Type 0
ListVisitsOf net vector Q13 proof = IfSome vector (λ g. ListSignalVisits net g proof)
ListVisitsOf net vector Q14 proof = ListsTableVisits net (plain_table net) proof
ListVisitsOf net vector Q15 proof = ListsTableVisits net (strong_table net) proof
ListVisitsOf net vector q proof = Unit {0}

-- so it is with the answers to these questions, by the vector that all these verdicts give
abbrev pub AllListVisits : Net → List Verdict → List Question → List Answer → Type 0
AllListVisits net verdicts qs answers = let vector = vector_given (on (zip built verdicts) Q12) in
    AllZip (λ q answer. ListVisitsOf net vector q answer.proof) qs answers

-- each tree of these answers has one node for each visit of its search, in their order
abbrev pub HaveNodeForEachVisit : Net → List Answer → Type 0
HaveNodeForEachVisit net answers = AllListVisits net (verdicts_of answers) built answers
