use Rattle.crn_cert.proofs.VerdictsFormed.{formed_answers_have_formed_verdicts}
use Rattle.crn_cert.proofs.laws.formed_answers_have_formed_verdicts.Goals as goal

pub returns : goal.returns
returns c = formed_answers_have_formed_verdicts
