-- Which kinds a choice settles.
-- Source: this project's own.
-- Shapes: coordinates count from 0.
use Rattle.std.specs.Prelude.{◌≡◌, ◌<◌, ◌+◌, ℕ, List, [], ◌∷◌, ◌++◌, length}
use Rattle.crn_vec.specs.declared.signs.Sign.{Sign}
use Rattle.crn_vec.specs.declared.signs.Kind.{Kind}
use Rattle.crn_vec.specs.Lists.{IsIn}
use Rattle.crn_vec.specs.Systems.{kind_at}

-- one choice more, after which there are this many, changes kinds at no other of the first n coordinates
abbrev pub SettlesOnly : (List Sign → List Kind) → ℕ → ℕ → List ℕ → Type 0
SettlesOnly kinds n depth settled = (p : List Sign) (s : Sign) (k : ℕ) → length p + 1 ≡ depth
    → k < n → (IsIn k settled → ⊥) → kind_at (kinds (p ++ s ∷ [])) k ≡ kind_at (kinds p) k
