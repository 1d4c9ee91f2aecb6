-- When an answer on endotactic networks is licensed: what the visits of the reactions' problems say of it.
-- Source: this project's own.
-- Shapes: reactions count from 1 in answers, else from 0.
use Rattle.std.specs.Prelude.{◌≡◌, ◌≤◌, ◌<◌, ◌+◌, ◌-◌, ◌⊎◌, ℕ, zero, suc, true, false, List, length, map, sum}
use Rattle.crn_vec.specs.declared.signs.Sign.{Sign}
use Rattle.crn_vec.specs.Network.{Net, IsNetwork}
use Rattle.crn_vec.specs.Elementary.{NamesWide}
use Rattle.crn_vec.specs.Visits.{IsVisitList, PassesBudget}
use Rattle.crn_cert.specs.Trees.{Plan, node_count}
use Rattle.crn_endo_check.specs.declared.endo.Endo.{Endo}
use Rattle.crn_endo_check.specs.declared.endo.Endo.TheVariants.{Yes, No, Wide, Spent, Large}
use Rattle.crn_endo_check.specs.Slopes.{IsSmallEnough, slope_matrix, slopes}
use Rattle.crn_endo_check.specs.Endo.{NamesReaction, IsFormedEndo, IsValidEndo}

-- the nodes of all trees
abbrev pub all_nodes : List Plan → ℕ
all_nodes trees = sum (map node_count trees)

-- the visits of the first reactions find nothing, and are so many together
abbrev pub AreRefuted : Net → ℕ → ℕ → Type 0
AreRefuted net zero used = used ≡ 0
AreRefuted net (suc n) used = (before : ℕ) × (visits : List (List Sign)) × AreRefuted net n before
    × IsVisitList (slopes net n) visits false × (used ≡ before + length visits)

-- the reactions before r are refuted, within the budget, by so many visits
pub record AreRefutedWithin (net : Net) (budget r used : ℕ) : Type 0 where
  pub refuted : AreRefuted net r used
  pub within : used ≤ budget

-- the visits of reaction r and of those before it together pass the budget, and those before it are
-- refuted within it
abbrev pub PassTogether : Net → ℕ → ℕ → Type 0
PassTogether net budget r = (used : ℕ) × AreRefutedWithin net budget r used
    × PassesBudget (slopes net r) (budget - used)

-- the visits of reaction r end with a full feasible prefix, within what those before it leave
abbrev pub FindWithin : Net → ℕ → ℕ → Type 0
FindWithin net budget r = (used : ℕ) × (visits : List (List Sign))
    × AreRefutedWithin net budget r used × IsVisitList (slopes net r) visits true
    × (used + length visits ≤ budget)

-- an answer is licensed by the visits
abbrev pub IsLicensedEndo : Net → ℕ → Endo → Type 0
IsLicensedEndo net budget (Yes trees) = (used : ℕ)
    × AreRefutedWithin net budget (length net.reactions) used × (all_nodes trees ≡ used)
IsLicensedEndo net budget (No reaction slope) = (r : ℕ) × NamesReaction net reaction r
    × FindWithin net budget r
IsLicensedEndo net budget (Wide reaction index basis) = (r : ℕ) × NamesReaction net reaction r
    × (used : ℕ) × AreRefutedWithin net budget r used × NamesWide (slope_matrix net r) index basis.list
IsLicensedEndo net budget (Spent reaction nodes) = (r : ℕ) × NamesReaction net reaction r
    × (nodes ≡ budget) × PassTogether net budget r
IsLicensedEndo net budget Large = Unit {0}

-- only a network that is too large has the answer that says so, and it has no other
abbrev pub IsSized : Net → Endo → Type 0
IsSized net Large = IsSmallEnough net → ⊥
IsSized net answer = IsSmallEnough net

-- the answer to whether a network is endotactic
pub record IsEndoAnswer (net : Net) (budget : ℕ) (answer : Endo) : Type 0 where
  pub formed : IsFormedEndo net answer
  pub valid : IsValidEndo net answer
  pub sized : IsSized net answer
  pub licensed : IsLicensedEndo net budget answer

-- the answer is open by a wide vector or by the sizes
abbrev pub IsWideOrLarge : Endo → Type 0
IsWideOrLarge (Wide reaction index basis) = Unit {0}
IsWideOrLarge Large = Unit {0}
IsWideOrLarge answer = ⊥

-- the answer is open by the visits of reaction r
abbrev pub IsSpentAt : ℕ → ℕ → Endo → Type 0
IsSpentAt budget r (Spent reaction nodes) = (reaction ≡ r + 1) × (nodes ≡ budget)
IsSpentAt budget r answer = ⊥

-- if the visits together pass the budget at a reaction, an answer that is not open for another cause is spent there
abbrev pub PassingVisitsAreSpent : Type 0
PassingVisitsAreSpent = (net : Net) (budget r : ℕ) (answer : Endo) → IsNetwork net
    → r < length net.reactions → IsEndoAnswer net budget answer → PassTogether net budget r
    → IsWideOrLarge answer ⊎ IsSpentAt budget r answer
