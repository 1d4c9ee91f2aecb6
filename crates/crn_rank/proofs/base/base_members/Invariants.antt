use Rattle.crn_rank.proofs.Prelude.{◌≡◌, map, slice_index, rows_inside}
use Rattle.crn_rank.proofs.base.base_members.Given as goal

abbrev pub invariant-loop-k : goal.invariant-loop-k
invariant-loop-k l = l.base.list ≡ map (slice_index l.members) (rows_inside l.tableau.matrix l.tableau.basis l.k)
