use Rattle.crn_ctree.proofs.Prelude.{◌≡◌, ℕ, take, map, sign, column_numbers, spots_from}
use Rattle.crn_ctree.proofs.worked.columns_by.Given as goal

abbrev pub invariant-loop-r : goal.invariant-loop-r
invariant-loop-r l = l.made.items ≡ map (λ (r : ℕ × ℕ). spots_from 0 (map sign (column_numbers l.net l.table r))) (take l.r l.net.reactions)
