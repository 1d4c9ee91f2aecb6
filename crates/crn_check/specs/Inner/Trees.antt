-- For the contracts of private functions alone.
-- The rules by which complexes hang in the trees of classes.
use Rattle.std.specs.Prelude.{ℕ, List}
use Rattle.crn_vec.specs.Network.{Net}
use Rattle.crn_cert.specs.ClassTests.{AreNumbered, HangsByLink, HangsFrom, HangsTo, IsTree, EachComplex}
use Rattle.crn_check.specs.declared.trees.Rule.{Rule}
use Rattle.crn_check.specs.declared.trees.Rule.TheVariants.{ByLink, From, To}

-- the labels count from 1 by first appearance
abbrev pub HaveNumbers : List ℕ → Type 0
HaveNumbers labels = (count : ℕ) × AreNumbered labels count

-- the reaction that c names joins it to its parent by the rule
abbrev pub Hangs : Rule → Net → List ℕ → List ℕ → List ℕ → ℕ → Type 0
Hangs ByLink net labels names depth c = HangsByLink net names depth c
Hangs From net labels names depth c = HangsFrom net labels names depth c
Hangs To net labels names depth c = HangsTo net labels names depth c

-- c is a root, or hangs in the tree of its class by the rule
abbrev pub IsInTree : Rule → Net → List ℕ → List ℕ → List ℕ → ℕ → Type 0
IsInTree rule net labels names depth c =
    IsTree (Hangs rule net labels names depth) labels names depth c

-- each complex is a root or hangs by the rule
abbrev pub AreTrees : Rule → Net → List ℕ → List ℕ → List ℕ → Type 0
AreTrees rule net labels names depth = EachComplex net (IsInTree rule net labels names depth)
