-- The path of options to the node that is due, and what is due after it.
-- Source: this project's own.
-- Shapes: `due` lists the prefixes whose trees are still to come, the next one first.
use Rattle.std.specs.Prelude.{ℕ, Bool, true, false, if◌then◌else◌, List, [], ◌∷◌, ◌++◌}
use Rattle.crn_vec.specs.declared.signs.Sign.{Sign}
use Rattle.crn_vec.specs.declared.signs.Sign.TheVariants.{Zero, Plus, Minus}
use Rattle.crn_vec.specs.Problems.{all_zero}

-- the later children of a prefix
abbrev pub later : List Sign → Sign → List (List Sign)
later p Zero =
    if all_zero p then (p ++ Plus ∷ []) ∷ [] else (p ++ Plus ∷ []) ∷ (p ++ Minus ∷ []) ∷ []
later p Plus = if all_zero p then [] else (p ++ Minus ∷ []) ∷ []
later p Minus = []

-- what is due after the prefix that these options lead to from a prefix
abbrev pub due_after : List Sign → List Sign → List (List Sign)
due_after before [] = []
due_after before (s ∷ path) = due_after (before ++ s ∷ []) path ++ later before s

-- a path stands for its prefix and the later children on the way to it, the deepest first; a
-- complete tree has nothing due
abbrev pub due_by : Bool → List Sign → List (List Sign)
due_by true path = []
due_by false path = path ∷ due_after [] path

-- what contracts see of a path: the prefixes that are due, and how many choices there are
pub record KeptPath : Type 0 where
  pub due : List (List Sign)
  pub choices : ℕ
