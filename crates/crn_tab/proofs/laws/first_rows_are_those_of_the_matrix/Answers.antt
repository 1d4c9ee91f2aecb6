use Rattle.crn_tab.proofs.FirstNamed.{first_named}
use Rattle.crn_tab.proofs.laws.first_rows_are_those_of_the_matrix.Goals as goal

pub returns : goal.returns
returns c = first_named
