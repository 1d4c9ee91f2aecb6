-- That the trees of a no on signals are as long as the searches.
-- Source: this project's own.
use Rattle.std.specs.Prelude.{ℤ, List}
use Rattle.crn_vec.specs.Network.{Net}
use Rattle.crn_vec.specs.NetSystems.{reaction_system}
use Rattle.crn_vec.specs.Signals.{Shape, signals}
use Rattle.crn_vec.specs.NetSignals.{IsShapeOf}
use Rattle.crn_vec.specs.Confluence.{negative}
use Rattle.crn_cert.specs.Trees.{Plan}
use Rattle.crn_cert.specs.declared.answer.Proof.{Proof}
use Rattle.crn_cert.specs.declared.answer.Proof.TheVariants.{One, Two}
use Rattle.crn_conc.specs.Visits.{ListsVisits}

-- the tree lists the visits of the search for a signal for g
abbrev pub ListsVisitsFor : Net → List ℤ → Plan → Type 0
ListsVisitsFor net g tree = (s : Shape) × IsShapeOf net g s
    × ListsVisits (signals s (reaction_system net)) tree

-- a tree of the proof lists the visits of the search for g, and a second one those for its negative
abbrev pub ListSignalVisits : Net → List ℤ → Proof → Type 0
ListSignalVisits net g (One tree) = ListsVisitsFor net g tree
ListSignalVisits net g (Two tree second) = ListsVisitsFor net g tree
    × ListsVisitsFor net (negative g) second
ListSignalVisits net g proof = Unit {0}
