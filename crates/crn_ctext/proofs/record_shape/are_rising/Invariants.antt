use Rattle.crn_ctext.proofs.Prelude.{◌≡◌, ◌↔◌, ℕ, drop, AreRising}
use Rattle.std.proofs.Common.{pos}
use Rattle.crn_ctext.proofs.LineShapes.{RisesAbove}
use Rattle.crn_ctext.proofs.record_shape.are_rising.Given as goal

abbrev pub invariant-loop-number : goal.invariant-loop-number
invariant-loop-number l =
    (k : ℕ) × (l.low ≡ pos k) × (RisesAbove k l.greatest (drop l.number-index l.numbers) ↔ AreRising l.greatest l.numbers)
