use Rattle.crn_frac.proofs.Prelude.{arith, IsGcd-from_mod, IsGcd-from_zero}
use Rattle.crn_frac.proofs.divisor.short_gcd.Goals as goal

pub loop-y-preserved : goal.loop-y-preserved
loop-y-preserved c = (λ g h. c.loop-y.invariant.0 g (IsGcd-from_mod c.loop-y.x c.loop-y.y g h), λ n p q. let h = c.loop-y.invariant.1 n p q in (h.1, omega (arith, h.1)))

pub returns-clause-gcd : goal.returns-clause-gcd
returns-clause-gcd c = c.loop-y.invariant.0 c.loop-y.x (IsGcd-from_zero c.loop-y.x c.loop-y.y c.loop-y-test.false)
