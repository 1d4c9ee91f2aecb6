-- For the contracts of private functions alone.
-- How the visits of a network end, the first of which is that of the empty prefix.
use Rattle.std.specs.Prelude.{◌≡◌, ◌≤◌, ℕ, []}
use Rattle.crn_vec.specs.Network.{Net}
use Rattle.crn_siphon_check.specs.Trees.{IsFormedTree, IsValidTree, node_count}
use Rattle.crn_siphon_check.specs.SiphonVisits.{PassesBudget}
use Rattle.crn_siphon_check.specs.Answers.{Wide, said_of}
use Rattle.crn_siphon_check.specs.declared.answer.Persist.{Persist}
use Rattle.crn_farkas.specs.declared.fault.Stop.{Stop}
use Rattle.crn_farkas.specs.declared.fault.Stop.TheVariants.{Wide as StopWide, NoMemory}
use Rattle.crn_siphon.specs.declared.answer.Shown.{Shown}
use Rattle.crn_siphon.specs.declared.answer.Shown.TheVariants.{Siphon, Tree, Spent}
use Rattle.crn_siphon.specs.Inner.Search.{IsFoundBy}

-- marks of a full prefix that stands, or a valid tree, within the budget; or the visits exceed it
abbrev pub IsEndOfVisits : Net → (budget : ℕ) → Shown → Type 0
IsEndOfVisits net budget (Siphon marks cover) = IsFoundBy net marks.list cover.list
    × (PassesBudget net budget → ⊥)
IsEndOfVisits net budget (Tree tree) = (IsValidTree net [] tree × IsFormedTree net 0 tree)
    × (PassesBudget net budget → ⊥) × (node_count tree ≤ budget)
IsEndOfVisits net budget Spent = PassesBudget net budget

-- the answer if a solver of this system stopped: the system is wide there
abbrev pub IsStopAnswer : ℕ → Stop → Persist → Type 0
IsStopAnswer system (StopWide index basis) answer = said_of answer ≡ Wide system index basis.list
IsStopAnswer system NoMemory answer = ⊥
