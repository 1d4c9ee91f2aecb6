-- For the contracts of private functions alone.
-- Marks: what is known of the signs of a vector (x, Ax), coordinate by coordinate.
-- Shapes: `marks` and `asked` have the words of a width, and `kinds` and `signs` a member for each
-- coordinate.
use Rattle.std.specs.Prelude.{◌≡◌, ◌<◌, ◌*◌, ◌≤ℤ◌, ℕ, ℤ, pos, negsuc, List, length, map, slice_index_or}
use Rattle.std.specs.List.{range_with_len}
use Rattle.crn_vec.specs.declared.signs.Sign.{Sign}
use Rattle.crn_vec.specs.declared.signs.Sign.TheVariants.{Zero as ZeroSign, Plus as PlusSign, Minus as MinusSign}
use Rattle.crn_vec.specs.declared.signs.Kind.{Kind}
use Rattle.crn_vec.specs.declared.signs.Kind.TheVariants.{Pos, Neg, Zero as ZeroKind, Free}
use Rattle.crn_vec.specs.Vectors.{Mat, entry}
use Rattle.crn_vec.specs.Elementary.{width, InRowSpace}
use Rattle.crn_vec.specs.Systems.{HasKind, kind_at}
use Rattle.crn_sign.specs.declared.bits.Bits.{Bits}
use Rattle.crn_sign.specs.declared.marks.Mark.{Mark}
use Rattle.crn_sign.specs.declared.marks.Mark.TheVariants.{Zero, Plus, Minus, Any}
use Rattle.crn_sign.specs.Options.{bit_of, weakened}
use Rattle.crn_sign.specs.Inner.Bits.{mark_at, word_count}

-- a number has a mark
abbrev pub HasMark : Mark → ℤ → Type 0
HasMark Zero x = x ≡ pos 0
HasMark Plus x = pos 1 ≤ℤ x
HasMark Minus x = x ≤ℤ negsuc 0
HasMark Any x = Unit {0}

-- the sign of coordinate k
abbrev pub sign_there : List Sign → ℕ → Sign
sign_there signs k = slice_index_or signs k ZeroSign

-- the marks of a vector (x, Ax)
pub record AreRowMarks (a : Mat) (marks : List Bits) : Type 0 where
  pub y : List ℤ
  pub space : InRowSpace a y
  pub long : length marks ≡ word_count a
  pub are : (k : ℕ) → k < width a → HasMark (mark_at marks k) (entry y k)

-- the mark of the sum of a great multiple of a number of the first mark and a number of the other
abbrev pub laid : Mark → Mark → Mark
laid Zero mark = mark
laid Plus mark = Plus
laid Minus mark = Minus
laid Any mark = Any

-- the mark of the sum of positive multiples of numbers of these marks
abbrev pub united : Mark → Mark → Mark
united Zero mark = mark
united Plus Zero = Plus
united Plus Plus = Plus
united Plus Minus = Any
united Plus Any = Any
united Minus Zero = Minus
united Minus Plus = Any
united Minus Minus = Minus
united Minus Any = Any
united Any mark = Any

-- the mark of the negative
abbrev pub negative : Mark → Mark
negative Zero = Zero
negative Plus = Minus
negative Minus = Plus
negative Any = Any

-- the mark of a number of a sign
abbrev pub sign_mark : Sign → Mark
sign_mark ZeroSign = Zero
sign_mark PlusSign = Plus
sign_mark MinusSign = Minus

-- the kind that a mark requires: any number, a positive or a negative one, or 0
abbrev pub kind_of_mark : Mark → Kind
kind_of_mark Zero = Free
kind_of_mark Plus = Pos
kind_of_mark Minus = Neg
kind_of_mark Any = ZeroKind

-- the kind that is required of a coordinate, of which those of `weak` are weak
abbrev pub kind_there : List ℕ → List Bits → ℕ → Kind
kind_there weak asked k = weakened (kind_of_mark (mark_at asked k)) (bit_of weak k)

-- the kinds that are required of the coordinates of a matrix, of which those of `weak` are weak
unfoldable pub kinds_of : Mat → List ℕ → List Bits → List Kind
kinds_of a weak asked = map (kind_there weak asked) (range_with_len 0 (width a))

-- each mark is made of those of two lists at its coordinate
pub record AreMadeBy (f : Mark → Mark → Mark) (one old new : List Bits) : Type 0 where
  pub count : length new ≡ length old
  pub each : (k : ℕ) → k < length old * 64 → mark_at new k ≡ f (mark_at one k) (mark_at old k)

-- one is plus and the other minus
abbrev pub AreOpposite : Mark → Mark → Type 0
AreOpposite Zero mark = ⊥
AreOpposite Plus Zero = ⊥
AreOpposite Plus Plus = ⊥
AreOpposite Plus Minus = Unit {0}
AreOpposite Plus Any = ⊥
AreOpposite Minus Zero = ⊥
AreOpposite Minus Plus = Unit {0}
AreOpposite Minus Minus = ⊥
AreOpposite Minus Any = ⊥
AreOpposite Any mark = ⊥

-- each number of this mark is of this kind
abbrev pub Suits : Kind → Mark → Type 0
Suits kind mark = (x : ℤ) → HasMark mark x → HasKind kind x

-- each number of a mark is what is required at its coordinate
abbrev pub AreMet : List ℕ → List Bits → List Bits → Type 0
AreMet weak asked marks = (k : ℕ) → k < length asked * 64
    → Suits (kind_there weak asked k) (mark_at marks k)

-- each number of a mark is of the kind of its coordinate
abbrev pub AreSuited : List Kind → List Bits → Type 0
AreSuited kinds marks = (k : ℕ) → k < length kinds → Suits (kind_at kinds k) (mark_at marks k)
