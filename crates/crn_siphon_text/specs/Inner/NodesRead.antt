-- For the contracts of private functions alone.
-- A node without children, as it is tested at a prefix.
-- Source: this project's own. Shapes: lines count from 1.
use Rattle.std.specs.Prelude.{ℕ, true, false, Bool, List, [], ◌∷◌, ◌++◌, Result, Ok, Err}
use Rattle.crn_vec.specs.Network.{Net}
use Rattle.crn_io.specs.Lines.{Place}
use Rattle.crn_ctext.specs.Course.{Course, Gives, FailsFirst, ◌>>=◌}
use Rattle.crn_siphon_text.specs.Document.{Node, leaf, asks_tree}

-- the tests of the node hold at the prefix, or one fails with this code
abbrev pub IsLeafRead : Net → List Bool → Node → Result (Unit {0}) ℕ → Type 0
IsLeafRead net prefix node (Ok u) = (n : ℕ) (at : Place) → Gives (leaf net prefix n node) at tt at
IsLeafRead net prefix node (Err code) = (n : ℕ) (at : Place) → FailsFirst (leaf net prefix n node) at n code

-- the trees of both children of a prefix, the first of which begins at this line
abbrev pub asks_children : Net → (more : ℕ) → List Bool → (line : ℕ) → Course ℕ
asks_children net more prefix n = asks_tree net more (prefix ++ true ∷ []) n
    >>= (λ k. asks_tree net more (prefix ++ false ∷ []) k)
