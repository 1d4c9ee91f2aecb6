-- For the contracts of private functions alone. What question 13 takes from earlier answers.
-- Source: this project's own.
use Rattle.std.specs.Prelude.{ℤ, List, [], Option, Some, None}

-- the vector, or no numbers
abbrev pub vector_or_none : Option (List ℤ) → List ℤ
vector_or_none None = []
vector_or_none (Some g) = g
