use Rattle.crn_tab.proofs.Entered.{read_none, read_some, read_member}
use Rattle.crn_tab.proofs.enter_rows.meets.Goals as goal

pub returns-in-Zero-clause-none : goal.returns-in-Zero-clause-none
returns-in-Zero-clause-none c = λ _. read_none c.args.tableau.now.matrix c.args.tableau.now.basis c.args.e c.args.k c.sign.result c.names_rows.ensures c.requires.inside c.requires.outside c.sign.ensures c.in-Zero.is

pub returns-in_default-clause-member : goal.returns-in_default-clause-member
returns-in_default-clause-member c = λ _. read_member c.args.tableau.now.matrix c.args.tableau.now.basis c.args.e c.args.k c.sign.result c.names_rows.ensures c.requires.inside c.requires.outside c.requires.other c.sign.ensures c.in_default.not-Zero

pub returns-in_default-clause-some : goal.returns-in_default-clause-some
returns-in_default-clause-some c = λ _. read_some c.args.tableau.now.matrix c.args.tableau.now.basis c.args.e c.args.k c.sign.result c.names_rows.ensures c.requires.inside c.requires.outside c.sign.ensures c.in_default.not-Zero
