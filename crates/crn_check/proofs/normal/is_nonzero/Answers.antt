use Rattle.crn_check.proofs.Prelude.{arith, common_steps}
use Rattle.crn_check.proofs.Leading.{inside_nonzero, nonzero_inside}
use Rattle.crn_check.proofs.normal.is_nonzero.Goals as goal

pub returns : goal.returns
returns c = (
  λ t. inside_nonzero c.args.numbers.now (grind (arith, common_steps, t, c.least.ensures)),
  λ h. let lt = nonzero_inside c.args.numbers.now h in grind (arith, common_steps, lt, c.least.ensures),
)
