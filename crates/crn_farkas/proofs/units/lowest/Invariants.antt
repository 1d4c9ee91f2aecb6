use Rattle.crn_farkas.proofs.Prelude.{◌≡◌, ◌<◌, length, IfSome, width, IsIn}
use Rattle.crn_farkas.proofs.units.lowest.Given as goal

abbrev pub invariant-loop-e : goal.invariant-loop-e
invariant-loop-e l = record {
  at : IfSome l.at (λ e. (e < width l.tableau.matrix) × (IsIn e l.tableau.basis → ⊥));
  sum : length l.sum ≡ length l.kinds;
}
