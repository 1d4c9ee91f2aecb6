use Rattle.crn_ctree.proofs.Prelude.{ℕ, ◌<◌, [], get_or, column_kind, HasKind, entry, table_of}
use Rattle.crn_ctree.proofs.pair.all_have_kinds.Given as goal

abbrev pub invariant-loop-r : goal.invariant-loop-r
invariant-loop-r l = (j : ℕ) → j < l.r → HasKind (column_kind (get_or (table_of l.net l.table) j []) l.prefix) (entry l.alpha j)
