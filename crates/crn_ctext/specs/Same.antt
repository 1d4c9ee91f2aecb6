-- Answers without what no record says: spare room of lists.
-- Source: this project's own.
-- Shapes: an answer is a verdict and a proof.
use Rattle.std.specs.Prelude.{◌≡◌, List, map}
use Rattle.crn_cert.specs.declared.answer.Answer.{Answer}
use Rattle.crn_cert.specs.Verdicts.{tight, tight_proof}

-- an answer whose lists have no spares
abbrev pub tight_answer : Answer → Answer
tight_answer a = record { verdict = tight a.verdict; proof = tight_proof a.proof }

-- the answers are the same but for the spares of their lists
abbrev pub AreSame : List Answer → List Answer → Type 0
AreSame answers others = map tight_answer answers ≡ map tight_answer others
