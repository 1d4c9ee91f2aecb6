-- For the contracts of private functions alone.
-- Lists of numbers that are held in one list, one after another.
-- Shapes: a span is the place at which a list begins, and the place after its last number.
use Rattle.std.specs.Prelude.{◌≤◌, ◌-◌, ℕ, ℤ, List, take, drop, map}
use Rattle.std.specs.List.{AllByRecursion}

-- each span is one of a list of this length
abbrev pub AreSpans : ℕ → List (ℕ × ℕ) → Type 0
AreSpans n spans = AllByRecursion (λ (s : ℕ × ℕ). (s.0 ≤ s.1) × (s.1 ≤ n)) spans

-- the numbers of a span
abbrev pub span_of : List ℤ → ℕ × ℕ → List ℤ
span_of numbers s = take (s.1 - s.0) (drop s.0 numbers)

-- the numbers of each span
abbrev pub spans_of : List ℤ → List (ℕ × ℕ) → List (List ℤ)
spans_of numbers spans = map (span_of numbers) spans
