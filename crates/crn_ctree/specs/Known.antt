-- The cuts of a sign problem by the vectors of a table, and cuts that are worked out one by one.
-- Source: this project's own.
use Rattle.std.specs.Prelude.{ℤ, List}
use Rattle.crn_vec.specs.Network.{Net}
use Rattle.crn_cert.specs.Nodes.{Said}
use Rattle.crn_ctree.specs.declared.problem.Problem.{Problem}

-- what contracts see of cuts that are known: the network, its sign problem, and the vectors
pub record KeptCuts : Type 0 where
  pub net : Net
  pub problem : Problem
  pub table : List (List ℤ)

-- what contracts see of a cut that is known: the network, its sign problem, and what the cut says
pub record KeptCut : Type 0 where
  pub net : Net
  pub problem : Problem
  pub said : Said
