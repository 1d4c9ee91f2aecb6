use Rattle.crn_graph.proofs.Prelude.{◌≡◌, ◌≤◌, take, zeros_in}
use Rattle.crn_graph.proofs.strong_data.count_zeros.Given as goal

abbrev pub invariant-loop-e : goal.invariant-loop-e
invariant-loop-e l = (l.count ≡ zeros_in (take l.e-index l.exit)) × (l.count ≤ l.e-index)
