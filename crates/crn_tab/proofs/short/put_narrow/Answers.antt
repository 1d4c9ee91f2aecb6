use Rattle.crn_tab.proofs.Prelude.{arith}
use Rattle.crn_tab.proofs.SameRows.{same_rows}
use Rattle.crn_tab.proofs.short.put_narrow.Goals as goal

pub returns : goal.returns
returns c = same_rows c.loop-j.into c.args.row.now (omega arith) (λ k lt. c.loop-j.invariant k (omega arith))
