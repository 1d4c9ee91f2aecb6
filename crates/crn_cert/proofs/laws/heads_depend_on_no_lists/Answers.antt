use Rattle.crn_cert.proofs.Heads.{heads_depend_on_no_lists}
use Rattle.crn_cert.proofs.laws.heads_depend_on_no_lists.Goals as goal

pub returns : goal.returns
returns c = heads_depend_on_no_lists
