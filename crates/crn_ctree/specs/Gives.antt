-- What the check of a tree gives for a node, for a shared node and at the end.
-- Source: this project's own.
-- Shapes: `due` lists the prefixes whose trees are still to come, the next one first.
use Rattle.std.specs.Prelude.{◌≡◌, ◌≢◌, ℕ, Bool, true, false, List, [], length, Result, Ok, Err}
use Rattle.crn_vec.specs.declared.signs.Sign.{Sign}
use Rattle.crn_vec.specs.Problems.{Signed}
use Rattle.crn_cert.specs.Nodes.{Said, Splits, Flats, CutsA, CutsB, Fits, rest_after}
use Rattle.crn_ctree.specs.Due.{first, rest}
use Rattle.crn_ctree.specs.declared.node.Node.{Node}
use Rattle.crn_ctree.specs.declared.node.Node.TheVariants.{Split, Flat, CutA, CutB}
use Rattle.crn_ctree.specs.declared.node.Step.{Step}
use Rattle.crn_ctree.specs.declared.node.Step.TheVariants.{More, Complete}
use Rattle.crn_ctree.specs.declared.fault.TreeFault.{TreeFault}
use Rattle.crn_ctree.specs.declared.fault.TreeFault.TheVariants.{BadLeaf, NodeNotAllowed, TreeEndsEarly, WrongShape}

-- the number of a fault in formats
abbrev pub code_of : TreeFault → ℕ
code_of BadLeaf = 41
code_of NodeNotAllowed = 42
code_of TreeEndsEarly = 43
code_of WrongShape = 46

-- what a node says
abbrev pub said_by : Node → Said
said_by Split = Splits
said_by Flat = Flats
said_by (CutA u) = CutsA u.now
said_by (CutB u) = CutsB u.now

-- the node is a cut
abbrev pub is_cut : Said → Bool
is_cut Splits = false
is_cut Flats = false
is_cut (CutsA u) = true
is_cut (CutsB u) = true

-- a node that fits the prefix that is due is taken, and leaves these due
pub record IsTaken (w : Signed) (due : List (List Sign)) (said : Said) (after : List (List Sign))
    : Type 0 where
  pub fits : Fits w (first due) said
  pub next_due : after ≡ rest_after (first due) (rest due) said

-- a node that does not fit the prefix that is due leaves all as it was
pub record IsRefused (w : Signed) (due : List (List Sign)) (said : Said) (after : List (List Sign))
    : Type 0 where
  pub fails : Fits w (first due) said → ⊥
  pub same : after ≡ due

-- a node that fits is taken, and completes the tree if nothing is due then; of those that do not
-- fit, a cut is a bad leaf, and another node is not allowed
abbrev pub NodeGives : Signed → List (List Sign) → Said → List (List Sign) → Result Step TreeFault
    → Type 0
NodeGives w due said after (Ok More) = IsTaken w due said after × (after ≢ [])
NodeGives w due said after (Ok Complete) = IsTaken w due said after × (after ≡ [])
NodeGives w due said after (Err BadLeaf) = IsRefused w due said after × (is_cut said ≡ true)
NodeGives w due said after (Err NodeNotAllowed) =
    IsRefused w due said after × (is_cut said ≡ false)
NodeGives w due said after (Err TreeEndsEarly) = ⊥
NodeGives w due said after (Err WrongShape) = ⊥

-- a cut has as many multipliers as its part has rows
abbrev pub HasShape : Signed → Said → Type 0
HasShape w Splits = Unit {0}
HasShape w Flats = Unit {0}
HasShape w (CutsA u) = length u ≡ length w.matrix_a.rows
HasShape w (CutsB u) = length u ≡ length w.matrix_b.rows

-- the shared vector has another length than the multipliers of its part, or else all is as for a
-- cut with its numbers
abbrev pub SharedGives : Signed → List (List Sign) → Said → List (List Sign)
    → Result Step TreeFault → Type 0
SharedGives w due said after (Err WrongShape) = (HasShape w said → ⊥) × (after ≡ due)
SharedGives w due said after result = HasShape w said × NodeGives w due said after result

-- the tree ends too early if and only if some prefix is still due
abbrev pub FinishGives : List (List Sign) → Result Unit TreeFault → Type 0
FinishGives due (Ok done) = due ≡ []
FinishGives due (Err TreeEndsEarly) = due ≢ []
FinishGives due (Err fault) = ⊥
