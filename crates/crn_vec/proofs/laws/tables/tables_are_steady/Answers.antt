use Rattle.crn_vec.proofs.TableLawful.{tables_are_steady}
use Rattle.crn_vec.proofs.laws.tables.tables_are_steady.Goals as goal

pub returns : goal.returns
returns c = tables_are_steady
