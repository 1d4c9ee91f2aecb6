use Rattle.crn_vec.proofs.Discordance.{tables_feasible}
use Rattle.crn_vec.proofs.laws.tables.feasible_prefixes_decide_discordance.Goals as goal

pub returns : goal.returns
returns c = tables_feasible
