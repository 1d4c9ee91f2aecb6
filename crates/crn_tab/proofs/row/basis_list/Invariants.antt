use Rattle.crn_tab.proofs.Prelude.{◌≡◌, take, basis_of}
use Rattle.crn_tab.proofs.row.basis_list.Given as goal

abbrev pub invariant-loop-k : goal.invariant-loop-k
invariant-loop-k l = l.v.list ≡ basis_of l.n (take l.k l.at)
