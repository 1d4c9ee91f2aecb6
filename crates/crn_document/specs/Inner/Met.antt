-- For the contracts of private functions alone. Lines of a tree that say cuts and were met before.
-- Source: this project's own format.
use Rattle.std.specs.Prelude.{◌≡◌, ◌<◌, false, ℕ, ℤ, List, length, slice_index_or}
use Rattle.std.specs.List.{AllByRecursion}
use Rattle.crn_vec.specs.Network.{Net}
use Rattle.crn_io.specs.Lines.{Place}
use Rattle.crn_cert.specs.Nodes.{Said, Splits, Flats, CutsA, CutsB}
use Rattle.crn_ctext.specs.Records.{Record}
use Rattle.crn_ctext.specs.Course.{Gives}
use Rattle.crn_ctext.specs.Blocks.{Node, Split, Flat, CutA, CutB, node_of}
use Rattle.crn_ctext.specs.Expect.{tests_of}
use Rattle.crn_ctext.specs.declared.expect.Expect.{Expect}
use Rattle.crn_ctree.specs.Known.{KeptCut}
use Rattle.crn_ctree.specs.declared.problem.Problem.{Problem as TreeProblem}
use Rattle.crn_document.specs.declared.met.MetLine.{MetLine}
use Rattle.crn_document.specs.declared.node.NodeLine.{NodeLine}
use Rattle.crn_document.specs.declared.node.NodeLine.TheVariants.{Known, Read}
use Rattle.crn_document.specs.Inner.Trees.{IsNode, IsSaidAs}

-- the node that says this and names no shared list
abbrev pub plain_node : Said → Node
plain_node Splits = Split
plain_node Flats = Flat
plain_node (CutsA u) = CutA false u
plain_node (CutsB u) = CutB false u

-- the record says this cut of the sign problem of a network
pub record IsCutOf (net : Net) (problem : TreeProblem) (cut : KeptCut) (r : Record) : Type 0 where
  pub of_net : cut.net ≡ net
  pub of_problem : cut.problem ≡ problem
  pub node : (table : List (List ℤ)) → node_of table r ≡ plain_node cut.said

-- the line is a record that is due, and says its cut
pub record IsMet (e : Expect) (net : Net) (problem : TreeProblem) (m : MetLine) : Type 0 where
  pub said : Record
  pub gives : (n : ℕ) (at : Place) → Gives (tests_of e n m.line.items) at said at
  pub cut : IsCutOf net problem m.cut said

-- these lines are
abbrev pub AreMet : Expect → Net → TreeProblem → List MetLine → Type 0
AreMet e net problem lines = AllByRecursion (IsMet e net problem) lines

-- the record says the cut of the line at this place
pub record IsMetAt (net : Net) (problem : TreeProblem) (lines : List MetLine) (i : ℕ) (r : Record)
    : Type 0 where
  pub inside : i < length lines
  pub cut : (m : MetLine) → m ≡ slice_index_or lines i m → IsCutOf net problem m.cut r

-- a line was read as this record, or met
abbrev pub IsNodeLineAs : Expect → Net → TreeProblem → List MetLine → NodeLine → List ℤ → Record
    → Type 0
IsNodeLineAs e net problem lines (Read word) read r = IsSaidAs e word read r
IsNodeLineAs e net problem lines (Known i) read r = IsMetAt net problem lines i r

-- all tests of the line hold, and its record says this and names no shared list
pub record SaysPlainly (e : Expect) (line : List ℕ) (said : Said) (r : Record) : Type 0 where
  pub gives : (n : ℕ) (at : Place) → Gives (tests_of e n line) at r at
  pub node : (table : List (List ℤ)) → node_of table r ≡ plain_node said

-- the record is a node that is due, read with its word or met
abbrev pub IsDueNodeLine : (version count_a species shared : ℕ) → Net → TreeProblem → List MetLine
    → NodeLine → List ℤ → Record → Type 0
IsDueNodeLine version a s k net problem lines (Read word) numbers r =
    IsNode version a s k word numbers r
IsDueNodeLine version a s k net problem lines (Known i) numbers r = IsMetAt net problem lines i r
