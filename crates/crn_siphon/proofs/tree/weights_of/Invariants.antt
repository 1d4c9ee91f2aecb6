use Rattle.crn_siphon.proofs.Prelude.{◌≡◌, List, ℤ, map, take, Fact, weights_of}
use Rattle.crn_siphon.proofs.Nodes.{all_weights}
use Rattle.crn_siphon.proofs.tree.weights_of.Given as goal

abbrev pub invariant-loop-k : goal.invariant-loop-k
invariant-loop-k l = weights_of l.made.items ≡ all_weights (take l.k l.laws)
