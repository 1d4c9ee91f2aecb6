use Rattle.crn_vec.proofs.Cuts.{cuts_exclude_solutions}
use Rattle.crn_vec.proofs.laws.linear.cuts_exclude_solutions.Goals as goal

pub returns : goal.returns
returns c = cuts_exclude_solutions
