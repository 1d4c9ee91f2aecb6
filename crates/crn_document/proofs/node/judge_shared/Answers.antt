use Rattle.crn_document.proofs.Prelude.{sym, ap, subst, ◌∙◌, Net, SharedGives, problem_of, said_by_shared}
use Rattle.crn_document.proofs.node.judge_shared.Goals as goal

pub known_node-requires-clause-choices : goal.known_node-requires-clause-choices
known_node-requires-clause-choices c = c.requires.choices ∙ ap (λ (n : Net). (problem_of n c.args.check.now.problem).choices) (sym c.requires.cuts.0)

pub returns-clause-gives : goal.returns-clause-gives
returns-clause-gives c =
    subst (λ (n : Net). SharedGives (problem_of n c.args.check.now.problem) c.args.check.now.due (said_by_shared c.args.cuts.now.table c.args.cut) c.known_node.new.self.due c.known_node.result) c.requires.cuts.0 c.known_node.ensures.gives
