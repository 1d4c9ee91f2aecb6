use Rattle.crn_ctree.proofs.Prelude.{subst, AreNumbersFor, said_by, problem_of, Node}
use Rattle.crn_ctree.proofs.NodeTests.{by_node}
use Rattle.crn_ctree.proofs.node.fits.Goals as goal

pub rules_out-requires : goal.rules_out-requires
rules_out-requires c = subst (λ (node : Node). AreNumbersFor (problem_of c.args.net.now c.args.problem) (said_by node)) c.in-CutA.is c.requires

pub rules_out-requires-in-CutB : goal.rules_out-requires-in-CutB
rules_out-requires-in-CutB c = subst (λ (node : Node). AreNumbersFor (problem_of c.args.net.now c.args.problem) (said_by node)) c.in-CutB.is c.requires

pub returns-in-Split : goal.returns-in-Split
returns-in-Split c = by_node c.args.net.now c.args.problem c.args.prefix.now _ c.args.node.now c.is_not_full.result c.in-Split.is c.is_not_full.ensures

pub returns-in-Flat : goal.returns-in-Flat
returns-in-Flat c = by_node c.args.net.now c.args.problem c.args.prefix.now _ c.args.node.now c.is_closed.result c.in-Flat.is c.is_closed.ensures

pub returns-in-CutA : goal.returns-in-CutA
returns-in-CutA c = by_node c.args.net.now c.args.problem c.args.prefix.now _ c.args.node.now c.rules_out.result c.in-CutA.is c.rules_out.ensures

pub returns-in-CutB : goal.returns-in-CutB
returns-in-CutB c = by_node c.args.net.now c.args.problem c.args.prefix.now _ c.args.node.now c.rules_out-in-CutB.result c.in-CutB.is c.rules_out-in-CutB.ensures
