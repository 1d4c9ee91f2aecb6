use Rattle.crn_cert.proofs.CutShares.{shares_fit}
use Rattle.crn_cert.proofs.laws.shares_fit.Goals as goal

pub returns : goal.returns
returns c = shares_fit
