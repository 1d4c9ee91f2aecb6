-- The sign problems of a network whose trees are checked.
-- Source: Shinar and Feinberg, Concordant chemical reaction networks (2012). The strong table and
-- signals are this project's own.
use Rattle.std.specs.Prelude.{List}
use Rattle.crn_vec.specs.declared.signs.Sign.{Sign}
use Rattle.crn_vec.specs.Network.{Net}
use Rattle.crn_vec.specs.NetSystems.{reaction_system}
use Rattle.crn_vec.specs.Problems.{Signed}
use Rattle.crn_vec.specs.Concordance.{concordance}
use Rattle.crn_vec.specs.Influence.{plain_table, strong_table}
use Rattle.crn_vec.specs.Signals.{signals}
use Rattle.crn_ctree.specs.declared.problem.InfluenceTable.{InfluenceTable}
use Rattle.crn_ctree.specs.declared.problem.InfluenceTable.TheVariants.{Plain, Strong}
use Rattle.crn_ctree.specs.declared.problem.Problem.{Problem}
use Rattle.crn_ctree.specs.declared.problem.Problem.TheVariants.{Concordance, Signals}

-- an influence table of the network
abbrev pub table_of : Net → InfluenceTable → List (List Sign)
table_of net Plain = plain_table net
table_of net Strong = strong_table net

-- the sign problem of the network's table, or of the signals over a shape
abbrev pub problem_of : Net → Problem → Signed
problem_of net (Concordance table) = concordance (reaction_system net) (table_of net table)
problem_of net (Signals shape) = signals shape.now (reaction_system net)
