use Rattle.crn_text.proofs.Spelled.{no_fault}
use Rattle.crn_text.proofs.laws.spelled_text_has_no_fault.Goals as goal

pub returns : goal.returns
returns c = λ text net line code p q. no_fault text net line code p q
