-- For the contracts of private functions alone.
-- Marks by words of 64 bits, one for plus and one for minus.
-- Shapes: coordinate k is bit k % 64 of word k / 64.
use Rattle.std.specs.Prelude.{◌≡◌, ◌/◌, ◌%◌, ℕ, zero, suc, List, length}
use Rattle.std.specs.Int.{bit_at}
use Rattle.crn_sign.specs.declared.bits.Bits.{Bits}
use Rattle.crn_sign.specs.declared.marks.Mark.{Mark}
use Rattle.crn_sign.specs.declared.marks.Mark.TheVariants.{Zero, Plus, Minus, Any}
pub use Rattle.crn_sign.specs.Options.{none, word_at, word_count}

-- the mark of a bit that says plus and one that says minus
abbrev pub mark_of : ℕ → ℕ → Mark
mark_of zero zero = Zero
mark_of zero (suc m) = Minus
mark_of (suc p) zero = Plus
mark_of (suc p) (suc m) = Any

-- the mark of one of 64 coordinates
abbrev pub mark_in : Bits → ℕ → Mark
mark_in bits i = mark_of (bit_at bits.plus i) (bit_at bits.minus i)

-- the mark of coordinate k
abbrev pub mark_at : List Bits → ℕ → Mark
mark_at words k = mark_in (word_at words (k / 64)) (k % 64)

-- the mark of coordinate k is m, and the others are as before
pub record IsMarked (old : List Bits) (k : ℕ) (m : Mark) (new : List Bits) : Type 0 where
  pub count : length new ≡ length old
  pub here : mark_at new k ≡ m
  pub others : (j : ℕ) → (j ≡ k → ⊥) → mark_at new j ≡ mark_at old j
