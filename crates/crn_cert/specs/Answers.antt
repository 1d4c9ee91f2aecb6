-- Answers without a proof, and what contracts see of a list of answers: their verdicts.
-- Source: this project's own.
use Rattle.std.specs.Prelude.{List, map}
use Rattle.crn_cert.specs.declared.answer.Answer.{Answer}
use Rattle.crn_cert.specs.declared.answer.Proof.TheVariants.{Nothing}
use Rattle.crn_cert.specs.declared.answer.Verdict.{Verdict}

-- a verdict that nothing has to show, as an open one
abbrev pub plain : Verdict → Answer
plain v = record { verdict = v; proof = Nothing }

-- the verdicts of answers, in order
abbrev pub verdicts_of : List Answer → List Verdict
verdicts_of answers = map (λ (a : Answer). a.verdict) answers
