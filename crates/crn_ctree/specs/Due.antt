-- The prefixes that are due while a tree is checked.
-- Source: this project's own.
-- Shapes: `due` lists the prefixes whose trees are still to come, the next one first.
use Rattle.std.specs.Prelude.{ℕ, List, [], ◌∷◌}
use Rattle.crn_vec.specs.declared.signs.Sign.{Sign}
use Rattle.crn_ctree.specs.declared.problem.Problem.{Problem}

-- what contracts see of the check of a tree
pub record KeptTree : Type 0 where
  pub due : List (List Sign)
  pub choices : ℕ
  pub problem : Problem

-- the prefix that is due next
abbrev pub first : List (List Sign) → List Sign
first [] = []
first (p ∷ rest) = p

-- the prefixes that are due after it
abbrev pub rest : List (List Sign) → List (List Sign)
rest [] = []
rest (p ∷ ps) = ps
