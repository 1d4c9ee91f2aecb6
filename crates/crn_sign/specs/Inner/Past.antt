-- For the contracts of private functions alone.
-- What is kept of past decisions of a part: multipliers u, and the marks of the list (-uA, u).
-- Shapes: `asked` and `marks` have the words of a width.
use Rattle.std.specs.Prelude.{◌≡◌, ◌≢◌, ◌<◌, ◌*◌, ℕ, ℤ, pos, Bool, true, false, List, drop, length, unsigned_abs}
use Rattle.crn_vec.specs.declared.limits.TheConstants.{WIDE_ENTRY}
use Rattle.crn_vec.specs.Vectors.{Mat, entry}
use Rattle.crn_vec.specs.Elementary.{InDualSpace}
use Rattle.crn_vec.specs.Systems.{MayWeigh, is_signed}
use Rattle.crn_sign.specs.declared.bits.Bits.{Bits}
use Rattle.crn_sign.specs.declared.marks.Mark.{Mark}
use Rattle.crn_sign.specs.Options.{bit_of, weakened}
use Rattle.crn_sign.specs.Inner.Bits.{mark_at, word_count}
use Rattle.crn_sign.specs.Inner.Marks.{HasMark, kind_of_mark, negative}

-- the marks of a list, which has no number but 0 past its end
pub record AreMarksOf (a : Mat) (w : List ℤ) (marks : List Bits) : Type 0 where
  pub long : length marks ≡ word_count a
  pub are : (k : ℕ) → HasMark (mark_at marks k) (entry w k)

-- multipliers below the bound, and the marks of the list (-uA, u)
pub record IsPast (a : Mat) (u : List ℤ) (marks : List Bits) : Type 0 where
  pub w : List ℤ
  pub space : InDualSpace a w
  pub rows : drop a.cols w ≡ u
  pub small : (k : ℕ) → unsigned_abs (entry u k) < WIDE_ENTRY
  pub marks_are : AreMarksOf a w marks

-- the mark of the number, or of its negative
abbrev pub mark_of_multiple : Bool → Mark → Mark
mark_of_multiple true mark = mark
mark_of_multiple false mark = negative mark

-- numbers of a mark may be weighed where this is required
abbrev pub Weighs : Mark → Mark → Type 0
Weighs asked mark = (x : ℤ) → HasMark mark x → MayWeigh (kind_of_mark asked) x

-- a sign is required, and not weakly, and no number of the mark is 0
pub record Counts (asked : Mark) (weak : ℕ) (mark : Mark) : Type 0 where
  pub signed : is_signed (weakened (kind_of_mark asked) weak) ≡ true
  pub some : (x : ℤ) → HasMark mark x → x ≢ pos 0

-- numbers of these marks, or their negatives, may be weighed everywhere
abbrev pub AllWeigh : List Bits → Bool → List Bits → Type 0
AllWeigh asked stays marks = (k : ℕ) → k < length asked * 64
    → Weighs (mark_at asked k) (mark_of_multiple stays (mark_at marks k))

-- some coordinate has to be positive or negative, and numbers of its mark are not 0
abbrev pub SomeCounts : List ℕ → List Bits → List Bits → Type 0
SomeCounts weak asked marks = (k : ℕ) × Counts (mark_at asked k) (bit_of weak k) (mark_at marks k)
