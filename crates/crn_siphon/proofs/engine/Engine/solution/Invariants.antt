use Rattle.crn_siphon.proofs.Prelude.{◌≤◌, length}
use Rattle.crn_siphon.proofs.engine.Engine.solution.Given as goal

abbrev pub invariant-back : goal.invariant-back
invariant-back l = l.left ≤ length l.self.steps.items

abbrev pub decreases-back : goal.decreases-back
decreases-back l = l.left
