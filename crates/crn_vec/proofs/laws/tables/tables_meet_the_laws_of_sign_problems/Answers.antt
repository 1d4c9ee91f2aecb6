use Rattle.crn_vec.proofs.TableLawful.{tables_are_lawful}
use Rattle.crn_vec.proofs.laws.tables.tables_meet_the_laws_of_sign_problems.Goals as goal

pub returns : goal.returns
returns c = tables_are_lawful
