-- For the contracts of private functions alone.
-- The input of a hash of a row of amounts.
use Rattle.std.specs.Prelude.{ℕ, ℤ, nat_abs, List, [], ◌∷◌, map}

-- the amounts of the row in their order, as one list
abbrev pub fed_by : List ℤ → List (List ℕ)
fed_by row = map nat_abs row ∷ []
