-- That the trees of a yes on concordance are as long as the search.
-- Source: this project's own.
use Rattle.std.specs.Prelude.{false, List, []}
use Rattle.crn_vec.specs.declared.signs.Sign.{Sign}
use Rattle.crn_vec.specs.Network.{Net}
use Rattle.crn_vec.specs.NetSystems.{reaction_system}
use Rattle.crn_vec.specs.Problems.{Signed}
use Rattle.crn_vec.specs.Concordance.{concordance}
use Rattle.crn_vec.specs.Visits.{IsVisitList}
use Rattle.crn_cert.specs.Trees.{Plan, places}
use Rattle.crn_cert.specs.declared.answer.Proof.{Proof}
use Rattle.crn_cert.specs.declared.answer.Proof.TheVariants.{One}

-- the tree has one node for each visit of the search over the sign problem, in their order
abbrev pub ListsVisits : Signed → Plan → Type 0
ListsVisits w tree = IsVisitList w (places [] tree) false

-- a tree of the proof lists the visits of the search over an influence table of the network
abbrev pub ListsTableVisits : Net → List (List Sign) → Proof → Type 0
ListsTableVisits net table (One tree) =
    ListsVisits (concordance (reaction_system net) table) tree
ListsTableVisits net table proof = Unit {0}
