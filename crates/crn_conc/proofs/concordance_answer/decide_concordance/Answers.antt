use Rattle.crn_conc.proofs.Ended.{plain, strong, spent_by}
use Rattle.crn_conc.proofs.concordance_answer.decide_concordance.Goals as goal

pub returns-then-is_soon_spent-clause-plain : goal.returns-then-is_soon_spent-clause-plain
returns-then-is_soon_spent-clause-plain c = spent_by plain c.args.keeps c.args.budget c.end_answer-plain.result c.requires.low c.requires.high c.end_answer-plain.ensures (c.is_soon_spent.ensures.plain c.if-is_soon_spent.true)

pub returns-then-is_soon_spent-clause-strong : goal.returns-then-is_soon_spent-clause-strong
returns-then-is_soon_spent-clause-strong c = spent_by strong c.args.keeps c.args.budget c.end_answer-strong.result c.requires.low c.requires.high c.end_answer-strong.ensures (c.is_soon_spent.ensures.strong c.if-is_soon_spent.true)

pub returns-clause-plain : goal.returns-clause-plain
returns-clause-plain c = c.in_ok-searched.ensures.plain c.in-Ok.ensures
