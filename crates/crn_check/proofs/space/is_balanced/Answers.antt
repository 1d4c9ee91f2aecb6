use Rattle.crn_check.proofs.Prelude.{arith}
use Rattle.crn_check.proofs.Decided.{granted}
use Rattle.crn_check.proofs.Spaces.{balanced_by}
use Rattle.crn_check.proofs.space.is_balanced.Goals as goal

pub returns : goal.returns
returns c = granted (balanced_by c.args.net.now c.args.numbers.now c.species-s-end.ensures.network (λ s lt. c.loop-s.invariant s (omega (arith, lt, c.species-s-end.ensures.count))))
