use Rattle.crn_text.proofs.Exclusions.{one_fault}
use Rattle.crn_text.proofs.laws.first_fault_is_one.Goals as goal

pub returns : goal.returns
returns c = λ text line other code another p q. one_fault text line other code another p q
