-- Strong linkage classes of a network, terminal ones, and reversibility.
-- Source: Feinberg, Foundations of Chemical Reaction Network Theory (2019). The exits are this
-- project's own.
-- Shapes: reactions are pairs (reactant, product) of complexes, which count from 0. Labels count
-- from 1, and so do
-- the reactions that exits name.
use Rattle.std.specs.Prelude.{◌≡◌, ◌<◌, ◌-◌, ◌↔◌, ℕ, suc, List, length, slice_index, slice_index_or}
use Rattle.crn_vec.specs.Lists.{IsIn}
use Rattle.crn_vec.specs.Network.{Net, IsNetwork}
use Rattle.crn_vec.specs.Walks.{LeadsTo, AreLabelsOf}
use Rattle.crn_vec.specs.Linkage.{SameClass}

-- some reaction goes from y to z
abbrev pub ReactsTo : List (ℕ × ℕ) → ℕ → ℕ → Type 0
ReactsTo reactions y z = IsIn (y, z) reactions

-- y reaches z: reactions lead from y to z one after another; every complex reaches itself
abbrev pub Reaches : List (ℕ × ℕ) → ℕ → ℕ → Type 0
Reaches reactions y z = LeadsTo (ReactsTo reactions) y z

-- each reaches the other: the two are in one strong linkage class
abbrev pub SameStrong : List (ℕ × ℕ) → ℕ → ℕ → Type 0
SameStrong reactions y z = Reaches reactions y z × Reaches reactions z y

-- the strong linkage class of y is terminal: every complex that y reaches also reaches y
abbrev pub IsTerminal : List (ℕ × ℕ) → ℕ → Type 0
IsTerminal reactions y = (z : ℕ) → Reaches reactions y z → Reaches reactions z y

-- labels are equal if and only if the complexes are in one strong class, and count from 1 by first
-- appearance
abbrev pub AreRightStrongLabels : List (ℕ × ℕ) → List ℕ → Type 0
AreRightStrongLabels reactions labels = AreLabelsOf (SameStrong reactions) labels

-- reaction r, counted from 0, goes from y to z
abbrev pub IsReaction : List (ℕ × ℕ) → ℕ → ℕ → ℕ → Type 0
IsReaction reactions r y z = (r < length reactions) × (slice_index_or reactions r (0, 0) ≡ (y, z))

-- reaction r goes from a complex of the strong class of y to one outside it
pub record LeavesClass (reactions : List (ℕ × ℕ)) (y r : ℕ) : Type 0 where
  pub reactant : ℕ
  pub product : ℕ
  pub goes : IsReaction reactions r reactant product
  pub from : SameStrong reactions y reactant
  pub outside : SameStrong reactions y product → ⊥

-- the exit of a class is 0 if and only if the class is terminal, and else a reaction that leaves it
pub record AreExits (reactions : List (ℕ × ℕ)) (labels exits : List ℕ) : Type 0 where
  pub terminal : (y : ℕ) → y < length labels
      → (slice_index exits (slice_index labels y - 1) ≡ 0) ↔ IsTerminal reactions y
  pub leaves : (y r : ℕ) → y < length labels → slice_index exits (slice_index labels y - 1) ≡ suc r
      → LeavesClass reactions y r

-- the reverse of each reaction is a reaction
abbrev pub IsReversible : List (ℕ × ℕ) → Type 0
IsReversible reactions = (y z : ℕ) → ReactsTo reactions y z → ReactsTo reactions z y

-- every linkage class is one strong class
abbrev pub IsWeaklyReversible : List (ℕ × ℕ) → Type 0
IsWeaklyReversible reactions = (y z : ℕ) → SameClass reactions y z → SameStrong reactions y z

-- every reaction stays within its strong class
abbrev pub StaysStrong : List (ℕ × ℕ) → Type 0
StaysStrong reactions = (y z : ℕ) → ReactsTo reactions y z → SameStrong reactions y z

-- a network is weakly reversible if and only if every reaction stays within its strong class
abbrev pub WeaklyReversibleByReactions : Type 0
WeaklyReversibleByReactions = (reactions : List (ℕ × ℕ))
    → StaysStrong reactions ↔ IsWeaklyReversible reactions

-- in a network a class is terminal if and only if no reaction goes from it to a complex outside it
abbrev pub TerminalByReactions : Type 0
TerminalByReactions = (net : Net) (y : ℕ) → IsNetwork net → y < length net.complexes
    → IsTerminal net.reactions y ↔ ((r : ℕ) → LeavesClass net.reactions y r → ⊥)
