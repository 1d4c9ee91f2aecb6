use Rattle.crn_ctext.proofs.Prelude.{refl}
use Rattle.crn_ctext.proofs.kinds.is_known.Goals as goal

pub has_known-requires-clause-table : goal.has_known-requires-clause-table
has_known-requires-clause-table c = record { first = refl; second = refl; first_trees = refl; second_trees = refl }
