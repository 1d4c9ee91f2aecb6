use Rattle.crn_rank.proofs.Prelude.{◌≡◌, rows_inside}
use Rattle.crn_rank.proofs.base.places_inside.Given as goal

abbrev pub invariant-loop-k : goal.invariant-loop-k
invariant-loop-k l = l.places.items ≡ rows_inside l.tableau.matrix l.tableau.basis l.k
