use Rattle.crn_conc.proofs.Prelude.{inl, inr, refl, arith, plain_table, strong_table}
use Rattle.crn_conc.proofs.Ended.{soon_spent}
use Rattle.crn_conc.proofs.concordance_answer.is_soon_spent.Goals as goal

pub returns-clause-plain : goal.returns-clause-plain
returns-clause-plain c = λ e. soon_spent c.args.net.now (plain_table c.args.net.now) c.args.budget c.species-visits.ensures.network (inl refl) (omega (arith, c.if-budget-visits.false, c.species-visits.ensures.count))

pub returns-clause-strong : goal.returns-clause-strong
returns-clause-strong c = λ e. soon_spent c.args.net.now (strong_table c.args.net.now) c.args.budget c.species-visits.ensures.network (inr refl) (omega (arith, c.if-budget-visits.false, c.species-visits.ensures.count))
