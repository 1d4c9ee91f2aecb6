-- For the contracts of private functions alone. The data of linkage classes and of strong classes.
-- Source: Feinberg, Foundations of Chemical Reaction Network Theory (2019), for the classes.
use Rattle.std.specs.Prelude.{◌≡◌, length}
use Rattle.crn_vec.specs.Network.{Net}
use Rattle.crn_cert.specs.Ranges.{IsFrom, AreFrom}
use Rattle.crn_cert.specs.Parts.{IsForest}
use Rattle.crn_cert.specs.ClassTests.{AreNumbered, AreEven, AreLinkTrees, AreFromTrees, AreToTrees, DoLevelsFall, AreAllExits, zeros_in}
use Rattle.crn_graph.specs.declared.linkage_data.LinkageData.{LinkageData}
use Rattle.crn_graph.specs.declared.strong_data.StrongData.{StrongData}

-- labels of the linkage classes with a forest that shows them
pub record AreLinkageData (net : Net) (classes : LinkageData) : Type 0 where
  pub count : IsFrom 1 (length net.complexes) classes.count
  pub labels : AreFrom (length net.complexes) 1 classes.count classes.label.list
  pub numbered : AreNumbered classes.label.list classes.count
  pub even : AreEven net classes.label.list
  pub forest : IsForest net classes.up.list classes.depth.list
  pub trees : AreLinkTrees net classes.label.list classes.up.list classes.depth.list

-- labels of the strong classes with exits, and with forests and levels that show them
pub record AreStrongData (net : Net) (classes : StrongData) : Type 0 where
  pub count : IsFrom 1 (length net.complexes) classes.count
  pub terminals : IsFrom 1 classes.count classes.terminal
  pub labels : AreFrom (length net.complexes) 1 classes.count classes.label.list
  pub numbered : AreNumbered classes.label.list classes.count
  pub from_forest : IsForest net classes.from.list classes.from_depth.list
  pub from_trees : AreFromTrees net classes.label.list classes.from.list classes.from_depth.list
  pub to_forest : IsForest net classes.to.list classes.to_depth.list
  pub to_trees : AreToTrees net classes.label.list classes.to.list classes.to_depth.list
  pub levels : AreFrom classes.count 0 (length net.complexes) classes.level.list
  pub falls : DoLevelsFall net classes.label.list classes.level.list
  pub exit_numbers : AreFrom classes.count 0 (length net.reactions) classes.exit.list
  pub exits : AreAllExits net classes.label.list classes.exit.list
  pub terminal : zeros_in classes.exit.list ≡ classes.terminal
