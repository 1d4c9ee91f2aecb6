use Rattle.crn_siphon.proofs.Prelude.{arith, ap, Fact, ◌∙◌, take_all}
use Rattle.crn_siphon.proofs.Nodes.{all_weights, weights_put}
use Rattle.crn_siphon.proofs.tree.weights_of.Goals as goal

pub returns : goal.returns
returns c = c.loop-k.invariant ∙ ap all_weights (take_all c.loop-k.k c.args.laws.now (omega arith))
