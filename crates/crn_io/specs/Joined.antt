-- Texts in order, with a separator between each two of them.
-- Source: this project's own. Shapes: texts are lists of bytes.
use Rattle.std.specs.Prelude.{ℕ, zero, suc, List, [], ◌∷◌, ◌++◌}
use Rattle.std.specs.List.{flat_map}

-- these texts, with the separator between each two
abbrev pub joined : List ℕ → List (List ℕ) → List ℕ
joined separator [] = []
joined separator (x ∷ xs) = x ++ flat_map (λ y. separator ++ y) xs

-- a text with this many others before it: after the separator, unless it is the first
abbrev pub with_separator : List ℕ → ℕ → List ℕ → List ℕ
with_separator separator zero x = x
with_separator separator (suc before) x = separator ++ x
