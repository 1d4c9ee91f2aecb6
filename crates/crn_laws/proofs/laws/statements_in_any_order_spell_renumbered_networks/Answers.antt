use Rattle.crn_laws.proofs.Statements.{statements_in_any_order}
use Rattle.crn_laws.proofs.laws.statements_in_any_order_spell_renumbered_networks.Goals as goal

pub returns : goal.returns
returns c = statements_in_any_order
