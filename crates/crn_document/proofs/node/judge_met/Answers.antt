use Rattle.crn_document.proofs.Prelude.{sym, subst, ◌∙◌, Net, Node, NodeGives, problem_of, JudgeGives}
use Rattle.crn_document.proofs.MetLines.{plain_gives}
use Rattle.crn_document.proofs.node.judge_met.Goals as goal

pub cut_node-requires-clause-cut_net : goal.cut_node-requires-clause-cut_net
cut_node-requires-clause-cut_net c = (c.requires.cut.1).of_net ∙ sym c.requires.cuts.0

pub cut_node-requires-clause-cut_problem : goal.cut_node-requires-clause-cut_problem
cut_node-requires-clause-cut_problem c = (c.requires.cut.1).of_problem ∙ sym c.requires.cuts.1

pub returns-clause-gives : goal.returns-clause-gives
returns-clause-gives c = λ table r h.
    let tree = c.args.check.now in
    let w = problem_of c.args.net.now tree.problem in
    let after = c.cut_node.new.self.due in
    let said = c.args.cut.now.said in
    let g = subst (λ (n : Net). NodeGives (problem_of n tree.problem) tree.due said after c.cut_node.result) c.requires.cuts.0 c.cut_node.ensures.gives in
    subst (λ (node : Node). JudgeGives w tree.due node after c.cut_node.result) (sym (let q = h.node in q table)) (plain_gives w tree.due after said c.cut_node.result g)
