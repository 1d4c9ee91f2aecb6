use Rattle.crn_solve.proofs.Prelude.{sym, subst, Q9, IsAnswer}
use Rattle.crn_solve.proofs.Deficiencies.{gives_rank}
use Rattle.crn_solve.proofs.Theorems.{weak_is, weak_known, zero_rests_given}
use Rattle.crn_solve.proofs.zero_answer.zero_answer.Goals as goal

pub zero_hypotheses-requires-clause-rank : goal.zero_hypotheses-requires-clause-rank
zero_hypotheses-requires-clause-rank c = c.requires.rank.rank c.in-Some.rank (sym c.in-Some.ensures)

pub zero_hypotheses-requires-clause-weak : goal.zero_hypotheses-requires-clause-weak
zero_hypotheses-requires-clause-weak c = weak_is c.args.net.now c.args.weak.now c.is_yes.result c.requires.weak c.is_yes.ensures

pub returns-in-Some : goal.returns-in-Some
returns-in-Some c budget earlier labels count weak is =
    let classes = c.args.classes.now in
    c.zero_hypotheses.ensures budget earlier (gives_rank earlier classes.label.list classes.count c.in-Some.rank c.args.rank.now (sym c.in-Some.ensures) labels count is)
    (weak_known earlier c.args.weak.now c.is_yes.result weak c.is_yes.ensures)

pub returns-in-None : goal.returns-in-None
returns-in-None c budget earlier labels count weak is =
    let net = c.args.net.now in
    subst (IsAnswer net budget earlier Q9) (sym c.rests_on.ensures) (zero_rests_given net budget earlier c.args.rank.now (c.requires.rank.or_open (sym c.in-None.ensures)) is)
