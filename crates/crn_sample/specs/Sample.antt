-- The texts of the sample networks: an enzyme E works on a substrate S0, step after step.
-- Source: this project's own. Shapes: texts are lists of bytes; steps count from 1.
use Rattle.std.specs.Prelude.{ℕ, ◌-◌, ◌+◌, zero, suc, List, [], ◌++◌, codes, decimal}

-- a name: a letter and a number
abbrev pub numbered : (letter : List ℕ) → ℕ → List ℕ
numbered letter i = letter ++ decimal i

-- step i: E binds S(i-1) to C(i), in both directions, and C(i) gives E and S(i)
abbrev pub step_text : ℕ → List ℕ
step_text i =
    codes "E + " ++ numbered (codes "S") (i - 1) ++ codes " <-> " ++ numbered (codes "C") i
    ++ codes "\n" ++ numbered (codes "C") i ++ codes " -> E + " ++ numbered (codes "S") i
    ++ codes "\n"

-- the text of the sample network of this many steps: the two lines of each step from the first on
abbrev pub sample_text : ℕ → List ℕ
sample_text zero = []
sample_text (suc before) = sample_text before ++ step_text (before + 1)
