use Rattle.crn_conc.proofs.Prelude.{arith}
use Rattle.crn_conc.proofs.SumLaws.{last_past}
use Rattle.crn_conc.proofs.chosen.settling.Goals as goal

pub returns-then-k-reactions : goal.returns-then-k-reactions
returns-then-k-reactions c = last_past c.args.table.now c.args.k (omega (arith, c.if-k-reactions.true, c.reactions.ensures))
