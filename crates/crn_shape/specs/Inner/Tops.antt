-- For the contracts of private functions alone.
-- The numbers of terminal strong classes, by labels and exits.
-- Source: this project's own.
-- Shapes: labels count from 1; the exit of a class is 0 if and only if it is terminal.
use Rattle.std.specs.Prelude.{◌==◌, ◌+◌, ◌-◌, ℕ, zero, suc, if◌then◌else◌, Option, Some, None, List, slice_index}

-- how many of the exits before a place are 0
abbrev pub zeros_below : List ℕ → ℕ → ℕ
zeros_below exits zero = 0
zeros_below exits (suc k) = zeros_below exits k + (if slice_index exits k == 0 then 1 else 0)

-- the number of the class with this label among the terminal ones, if it is terminal
abbrev pub top_for : List ℕ → ℕ → Option ℕ
top_for exits label =
    if slice_index exits (label - 1) == 0 then Some (zeros_below exits (label - 1)) else None
