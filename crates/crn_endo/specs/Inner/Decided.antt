-- For the contracts of private functions alone.
-- What the search for a slope against one reaction gives.
-- Source: this project's own.
-- Shapes: `left` visits are allowed.
use Rattle.std.specs.Prelude.{◌≡◌, ◌≤◌, ◌<◌, ◌+◌, ℕ, true, false, List, [], length, slice_index_or}
use Rattle.std.specs.List.{AllByRecursion}
use Rattle.crn_vec.specs.declared.signs.Sign.{Sign}
use Rattle.crn_vec.specs.Network.{Net}
use Rattle.crn_vec.specs.Elementary.{NamesWide}
use Rattle.crn_vec.specs.Visits.{IsVisitList, PassesBudget}
use Rattle.crn_cert.specs.Ranges.{IsNarrow}
use Rattle.crn_cert.specs.Trees.{Plan, Level, IsValid, AreNarrow, node_count, places}
use Rattle.crn_sign.specs.Search.{IsTreeAt}
use Rattle.crn_endo_check.specs.declared.endo.Endo.{Endo}
use Rattle.crn_endo_check.specs.declared.endo.Endo.TheVariants.{Yes, No, Wide, Spent, Large}
use Rattle.crn_endo_check.specs.Endotactic.{IsAgainst}
use Rattle.crn_endo_check.specs.Slopes.{slope_matrix, slopes}
use Rattle.crn_endo_check.specs.Endo.{NamesReaction}
use Rattle.crn_endo.specs.Answer.{AreRefuted, all_nodes}
use Rattle.crn_endo.specs.declared.answer.Decided.{Decided}
use Rattle.crn_endo.specs.declared.answer.Decided.TheVariants.{Refuted, Ended}

-- the answer that a reaction alone gives
abbrev pub EndsAnswer : Net → ℕ → ℕ → ℕ → Endo → Type 0
EndsAnswer net r left budget (Yes trees) = ⊥
EndsAnswer net r left budget (No reaction slope) = NamesReaction net reaction r
    × IsAgainst net r slope.list × AllByRecursion IsNarrow slope.list
    × (visits : List (List Sign)) × IsVisitList (slopes net r) visits true × (length visits ≤ left)
EndsAnswer net r left budget (Wide reaction index basis) = NamesReaction net reaction r
    × NamesWide (slope_matrix net r) index basis.list
EndsAnswer net r left budget (Spent reaction nodes) = NamesReaction net reaction r
    × (nodes ≡ budget) × PassesBudget (slopes net r) left
EndsAnswer net r left budget Large = ⊥

-- a tree that refutes the reaction, with one node for each visit, or the answer
abbrev pub IsDecidedAt : Net → ℕ → ℕ → ℕ → Decided → Type 0
IsDecidedAt net r left budget (Refuted tree) = IsTreeAt (slopes net r) [] tree
    × IsVisitList (slopes net r) (places [] tree) false × (node_count tree ≤ left)
IsDecidedAt net r left budget (Ended answer) = EndsAnswer net r left budget answer

-- the reactions before r are refuted by these trees, and `left` visits of the budget are left
pub record AreDone (net : Net) (budget r left : ℕ) (trees : List Plan) : Type 0 where
  pub count : length trees ≡ r
  pub valid : (m : ℕ) → m < r → IsValid (slopes net m) [] (slice_index_or trees m Level)
  pub narrow : AllByRecursion AreNarrow trees
  pub refuted : AreRefuted net r (all_nodes trees)
  pub within : all_nodes trees + left ≡ budget
