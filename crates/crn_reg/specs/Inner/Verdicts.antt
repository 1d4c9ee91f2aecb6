-- For the contracts of private functions alone. Answers on regularity and on confluence vectors.
-- Source: this project's own.
use Rattle.std.specs.Prelude.{ℤ, List}
use Rattle.crn_cert.specs.declared.answer.Gap.TheVariants.{Rests}
use Rattle.crn_cert.specs.declared.answer.Verdict.{Verdict}
use Rattle.crn_cert.specs.declared.answer.Verdict.TheVariants.{Yes, YesVec, Unknown}
use Rattle.crn_cert.specs.declared.answer.Proof.TheVariants.{Sides}
use Rattle.crn_cert.specs.declared.answer.Answer.{Answer}
use Rattle.crn_cert.specs.Answers.{plain}

-- a yes with these sides if the network is positively dependent, and else open because that is
abbrev pub by_dependence : Verdict → List (List ℤ) → Answer
by_dependence (YesVec vector) sides = record { verdict = Yes; proof = Sides sides }
by_dependence other sides = plain (Unknown (Rests 7))
