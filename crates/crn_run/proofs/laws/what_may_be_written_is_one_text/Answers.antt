use Rattle.crn_run.proofs.Complete.{one_usage, one_refusal, one_rejection, one_checked, one_verified}
use Rattle.crn_run.proofs.laws.what_may_be_written_is_one_text.Goals as goal

pub returns-clause-usage : goal.returns-clause-usage
returns-clause-usage c = one_usage

pub returns-clause-refused : goal.returns-clause-refused
returns-clause-refused c = one_refusal

pub returns-clause-rejected : goal.returns-clause-rejected
returns-clause-rejected c = one_rejection

pub returns-clause-checked : goal.returns-clause-checked
returns-clause-checked c = one_checked

pub returns-clause-verified : goal.returns-clause-verified
returns-clause-verified c = one_verified
