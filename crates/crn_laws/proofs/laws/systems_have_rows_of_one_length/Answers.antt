use Rattle.crn_laws.proofs.Systems.{networks_have_full_rows}
use Rattle.crn_laws.proofs.laws.systems_have_rows_of_one_length.Goals as goal

pub returns : goal.returns
returns c = networks_have_full_rows
