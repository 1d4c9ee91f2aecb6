use Rattle.crn_tab.proofs.Prelude.{Plus, Minus}
use Rattle.crn_tab.proofs.CutScans.{none_rules, plus_some, minus_some}
use Rattle.crn_tab.proofs.row_cuts.cuts_of.Goals as goal

pub returns-then-not-some_counts : goal.returns-then-not-some_counts
returns-then-not-some_counts c = λ w named rules. rules.1.3 (c.some_counts.ensures.no c.if-not-some_counts.true w named rules.1.0 rules.1.1 rules.1.2)

pub returns-then-all_weigh : goal.returns-then-all_weigh
returns-then-all_weigh c = (plus_some, λ w named. (c.all_weigh.ensures.yes c.if-all_weigh.true w named, c.some_counts.ensures.yes c.if-not-some_counts.false Plus plus_some w named))

pub returns-then-all_weigh-2 : goal.returns-then-all_weigh-2
returns-then-all_weigh-2 c = (minus_some, λ w named. (c.all_weigh-2.ensures.yes c.if-all_weigh-2.true w named, c.some_counts.ensures.yes c.if-not-some_counts.false Minus minus_some w named))

pub returns : goal.returns
returns c = none_rules c.args.fields.now.matrix.now c.args.fields.now.at.now c.args.fields.now.order.now c.args.fields.now.rows.now c.args.row c.args.kinds.now c.requires.tableau c.requires.inside c.requires.outside (c.all_weigh.ensures.no c.if-all_weigh.false) (c.all_weigh-2.ensures.no c.if-all_weigh-2.false)
