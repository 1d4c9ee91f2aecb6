-- Trees that show that no full prefix of a sign problem is feasible.
-- Source: this project's own.
use Rattle.std.specs.Prelude.{◌≡◌, ◌<◌, ℕ, ℤ, true, false, List, [], ◌∷◌, ◌++◌, ◌+◌, length}
use Rattle.std.specs.List.{AllByRecursion}
use Rattle.crn_vec.specs.declared.signs.Sign.{Sign}
use Rattle.crn_vec.specs.declared.signs.Sign.TheVariants.{Zero, Plus, Minus}
use Rattle.crn_vec.specs.Systems.{IsCut}
use Rattle.crn_vec.specs.Problems.{Signed, all_zero}
use Rattle.crn_cert.specs.Ranges.{IsNarrow, AreFree}

-- a tree as contracts see it: the trees of the children of a prefix of zeros or of any other prefix,
-- multipliers that rule a part out, or a closed prefix
pub data Plan : Type 0 where
  Both : Plan → Plan → Plan
  Three : Plan → Plan → Plan → Plan
  RulesA : List ℤ → Plan
  RulesB : List ℤ → Plan
  Level : Plan

-- a tree is valid at a prefix: it splits into the children of a prefix that is not full, and each
-- leaf shows that its prefix is not feasible
abbrev pub IsValid : Signed → List Sign → Plan → Type 0
IsValid w p (Both zero plus) = (length p < w.choices) × (all_zero p ≡ true)
    × IsValid w (p ++ Zero ∷ []) zero × IsValid w (p ++ Plus ∷ []) plus
IsValid w p (Three zero plus minus) = (length p < w.choices) × (all_zero p ≡ false)
    × IsValid w (p ++ Zero ∷ []) zero × IsValid w (p ++ Plus ∷ []) plus
    × IsValid w (p ++ Minus ∷ []) minus
IsValid w p (RulesA u) = IsCut w.matrix_a (w.kinds_a p) u
IsValid w p (RulesB u) = IsCut w.matrix_b (w.kinds_b p) u
IsValid w p Level = w.closed p ≡ true

-- the prefixes of the nodes of a tree, in preorder
abbrev pub places : List Sign → Plan → List (List Sign)
places p (Both zero plus) = p ∷ (places (p ++ Zero ∷ []) zero ++ places (p ++ Plus ∷ []) plus)
places p (Three zero plus minus) = p
    ∷ (places (p ++ Zero ∷ []) zero ++ places (p ++ Plus ∷ []) plus
    ++ places (p ++ Minus ∷ []) minus)
places p (RulesA u) = p ∷ []
places p (RulesB u) = p ∷ []
places p Level = p ∷ []

-- every multiplier is a number of a certificate
abbrev pub AreNarrow : Plan → Type 0
AreNarrow (Both zero plus) = AreNarrow zero × AreNarrow plus
AreNarrow (Three zero plus minus) = AreNarrow zero × AreNarrow plus × AreNarrow minus
AreNarrow (RulesA u) = AllByRecursion IsNarrow u
AreNarrow (RulesB u) = AllByRecursion IsNarrow u
AreNarrow Level = Unit {0}

-- the number of nodes
abbrev pub node_count : Plan → ℕ
node_count (Both zero plus) = 1 + node_count zero + node_count plus
node_count (Three zero plus minus) = 1 + node_count zero + node_count plus + node_count minus
node_count (RulesA u) = 1
node_count (RulesB u) = 1
node_count Level = 1

-- a tree is formed at a prefix: it splits into the children of a prefix that is not full, and each
-- cut has a number of a certificate for each row of its part
abbrev pub IsFormedTree : ℕ → ℕ → ℕ → List Sign → Plan → Type 0
IsFormedTree choices rows_a rows_b p (Both zero plus) =
    (length p < choices) × (all_zero p ≡ true)
    × IsFormedTree choices rows_a rows_b (p ++ Zero ∷ []) zero
    × IsFormedTree choices rows_a rows_b (p ++ Plus ∷ []) plus
IsFormedTree choices rows_a rows_b p (Three zero plus minus) =
    (length p < choices) × (all_zero p ≡ false)
    × IsFormedTree choices rows_a rows_b (p ++ Zero ∷ []) zero
    × IsFormedTree choices rows_a rows_b (p ++ Plus ∷ []) plus
    × IsFormedTree choices rows_a rows_b (p ++ Minus ∷ []) minus
IsFormedTree choices rows_a rows_b p (RulesA u) = AreFree rows_a u
IsFormedTree choices rows_a rows_b p (RulesB u) = AreFree rows_b u
IsFormedTree choices rows_a rows_b p Level = Unit {0}
