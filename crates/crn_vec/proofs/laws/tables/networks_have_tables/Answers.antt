use Rattle.crn_vec.proofs.NetTables.{networks_have_tables}
use Rattle.crn_vec.proofs.laws.tables.networks_have_tables.Goals as goal

pub returns : goal.returns
returns c = networks_have_tables
