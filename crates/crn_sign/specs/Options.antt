-- Words by bits, and the kinds that are required of coordinates.
-- Source: this project's own.
-- Shapes: coordinate k is bit k % 64 of word k / 64, counted from 0.
use Rattle.std.specs.Prelude.{◌≡◌, ◌≢◌, ◌<◌, ◌+◌, ◌/◌, ◌%◌, ℕ, zero, suc, Bool, true, false, List, length, slice_index_or}
use Rattle.std.specs.Int.{bit_at}
use Rattle.crn_vec.specs.declared.signs.Sign.{Sign}
use Rattle.crn_vec.specs.declared.signs.Sign.TheVariants.{Zero}
use Rattle.crn_vec.specs.declared.signs.Kind.{Kind}
use Rattle.crn_vec.specs.declared.signs.Kind.TheVariants.{Pos, Neg, Zero as ZeroKind, NonNeg, Free}
use Rattle.crn_vec.specs.Systems.{kind_at, one_if}
use Rattle.crn_vec.specs.Vectors.{Mat}
use Rattle.crn_vec.specs.Elementary.{width}
use Rattle.crn_sign.specs.declared.bits.Bits.{Bits}
use Rattle.crn_sign.specs.declared.problem.Asked.{Asked}

-- sign k of a list, zero past its end
abbrev pub sign_at : List Sign → ℕ → Sign
sign_at signs k = slice_index_or signs k Zero

-- the kind that is required of a coordinate: a positive or a negative number, 0, or any
abbrev pub kind_by : Bool → Bool → Kind
kind_by false false = Free
kind_by true false = Pos
kind_by false true = Neg
kind_by true true = ZeroKind

-- the kind that is required
abbrev pub asked_kind : Asked → Kind
asked_kind asked = kind_by asked.plus asked.minus

-- 64 coordinates of which nothing is required
abbrev pub none : Bits
none = record { plus = 0; minus = 0 }

-- a word of a list
abbrev pub word_at : List Bits → ℕ → Bits
word_at words w = slice_index_or words w none

-- how many words the coordinates of a vector (x, Ax) take
abbrev pub word_count : Mat → ℕ
word_count a = width a / 64 + 1

-- the bit for plus of a coordinate
abbrev pub plus_at : List Bits → ℕ → ℕ
plus_at words k = bit_at (word_at words (k / 64)).plus (k % 64)

-- the bit for minus of a coordinate
abbrev pub minus_at : List Bits → ℕ → ℕ
minus_at words k = bit_at (word_at words (k / 64)).minus (k % 64)

-- the kind that a bit for plus and one for minus require
abbrev pub kind_of_bits : ℕ → ℕ → Kind
kind_of_bits zero zero = Free
kind_of_bits (suc p) zero = Pos
kind_of_bits zero (suc m) = Neg
kind_of_bits (suc p) (suc m) = ZeroKind

-- the kind that words require of a coordinate
abbrev pub kind_in : List Bits → ℕ → Kind
kind_in asked k = kind_of_bits (plus_at asked k) (minus_at asked k)

-- the words require these kinds of the coordinates of a matrix
pub record AskKinds (a : Mat) (kinds : List Kind) (asked : List Bits) : Type 0 where
  pub count : length asked ≡ word_count a
  pub each : (k : ℕ) → k < width a → kind_in asked k ≡ kind_at kinds k

-- a word of bits, 0 past the end of the list
abbrev pub word_of : List ℕ → ℕ → ℕ
word_of words w = slice_index_or words w 0

-- the bit of a coordinate
abbrev pub bit_of : List ℕ → ℕ → ℕ
bit_of words k = bit_at (word_of words (k / 64)) (k % 64)

-- the kind of a coordinate that a bit may make weak, where plus requires no more than a number at least 0
abbrev pub weakened : Kind → ℕ → Kind
weakened Pos zero = Pos
weakened Pos (suc w) = NonNeg
weakened Neg w = Neg
weakened ZeroKind w = ZeroKind
weakened NonNeg w = NonNeg
weakened Free w = Free

-- the kind that words require of a coordinate, of which those of `weak` are weak
abbrev pub kind_by_words : List ℕ → List Bits → ℕ → Kind
kind_by_words weak asked k = weakened (kind_in asked k) (bit_of weak k)

-- the words require these kinds of the coordinates of a matrix, of which those of `weak` are weak
pub record AskKindsBy (a : Mat) (weak : List ℕ) (kinds : List Kind) (asked : List Bits) : Type 0 where
  pub count : length asked ≡ word_count a
  pub each : (k : ℕ) → k < width a → kind_by_words weak asked k ≡ kind_at kinds k

-- the bits of coordinate k are these, and the others are as before
pub record IsPut (old : List Bits) (k : ℕ) (asked : Asked) (new : List Bits) : Type 0 where
  pub count : length new ≡ length old
  pub plus : plus_at new k ≡ one_if asked.plus
  pub minus : minus_at new k ≡ one_if asked.minus
  pub other_plus : (j : ℕ) → j ≢ k → plus_at new j ≡ plus_at old j
  pub other_minus : (j : ℕ) → j ≢ k → minus_at new j ≡ minus_at old j
