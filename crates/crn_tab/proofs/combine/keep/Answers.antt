use Rattle.crn_tab.proofs.Prelude.{arith}
use Rattle.crn_tab.proofs.SameRows.{same_rows, small_everywhere}
use Rattle.crn_tab.proofs.combine.keep.Goals as goal

pub returns : goal.returns
returns c = (
  same_rows c.loop-j.row c.args.work.now (omega arith) (λ k lt. c.loop-j.invariant.so_far k (omega arith)),
  small_everywhere c.args.work.now (λ k lt. c.loop-j.invariant.small k (omega arith)),
)
