use Rattle.crn_ctree.proofs.Prelude.{sym, subst, ◌∙◌, ◌↔◌, IsTrue, problem_of, Problem}
use Rattle.crn_ctree.proofs.NodeTests.{flat_fits}
use Rattle.crn_ctree.proofs.node.is_closed.Goals as goal

pub returns-in-Concordance : goal.returns-in-Concordance
returns-in-Concordance c =
    subst (λ (q : Problem). IsTrue c.is_all_nought.result ↔ IsTrue ((problem_of c.args.net.now q).closed c.args.prefix.now)) (sym c.in-Concordance.is)
    (flat_fits c.args.net.now c.args.prefix.now c.is_all_nought.result c.is_all_nought.ensures)

pub returns-in-Signals : goal.returns-in-Signals
returns-in-Signals c =
    subst (λ (q : Problem). IsTrue c.is_closed.result ↔ IsTrue ((problem_of c.args.net.now q).closed c.args.prefix.now)) (sym c.in-Signals.is)
    ((λ t. sym c.is_closed.ensures ∙ t), (λ t. c.is_closed.ensures ∙ t))
