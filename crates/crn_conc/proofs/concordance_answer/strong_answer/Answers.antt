use Rattle.crn_conc.proofs.Prelude.{subst, IsNamed}
use Rattle.crn_conc.proofs.Ended.{named_by, strong}
use Rattle.crn_conc.proofs.concordance_answer.strong_answer.Goals as goal

pub returns-in-Some : goal.returns-in-Some
returns-in-Some c =
    let name = c.in-Some.name in
    named_by strong c.args.keeps c.args.budget name.index name.basis c.plain.result (subst (IsNamed c.args.net.now) c.in-Some.is c.requires.shared) c.plain.ensures

pub returns : goal.returns
returns c = c.in_ok-searched.ensures.strong c.in_ok-table.ensures
