use Rattle.crn_check.proofs.Prelude.{arith, common_steps}
use Rattle.crn_check.proofs.Leading.{primitive_by, by_primitive}
use Rattle.crn_check.proofs.normal.is_primitive.Goals as goal

pub returns : goal.returns
returns c = (
  λ t. primitive_by c.args.numbers.now c.divisor.result c.divisor.ensures (grind (arith, common_steps, t)),
  λ h. let one = by_primitive c.args.numbers.now c.divisor.result c.divisor.ensures h in grind (arith, common_steps, one),
)
