use Rattle.crn_tab.proofs.OwnSign.{names_rows}
use Rattle.crn_tab.proofs.sign.slots_name_rows.Goals as goal

pub returns : goal.returns
returns c = names_rows c.args._fields.now.matrix.now c.args._fields.now.at.now c.args._fields.now.order.now c.args._fields.now.rows.now c.requires.tableau
