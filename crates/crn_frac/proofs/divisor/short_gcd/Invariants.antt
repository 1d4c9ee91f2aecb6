use Rattle.crn_frac.proofs.Prelude.{ℕ, ◌≤◌, IsGcd}
use Rattle.crn_frac.proofs.divisor.short_gcd.Given as goal

abbrev pub invariant-loop-y : goal.invariant-loop-y
invariant-loop-y l = ((g : ℕ) → IsGcd l.x l.y g → IsGcd l.fn.a l.fn.b g) × ((n : ℕ) → l.fn.a ≤ n → l.fn.b ≤ n → (l.x ≤ n) × (l.y ≤ n))

abbrev pub decreases-loop-y : goal.decreases-loop-y
decreases-loop-y l = l.y
