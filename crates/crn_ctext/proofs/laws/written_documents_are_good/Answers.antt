use Rattle.crn_ctext.proofs.GoodLaws.{written_good, shared_good, shares_fit}
use Rattle.crn_ctext.proofs.laws.written_documents_are_good.Goals as goal

pub returns-clause-first : goal.returns-clause-first
returns-clause-first c = written_good

pub returns-clause-second : goal.returns-clause-second
returns-clause-second c = shared_good

pub returns-clause-share : goal.returns-clause-share
returns-clause-share c = shares_fit
