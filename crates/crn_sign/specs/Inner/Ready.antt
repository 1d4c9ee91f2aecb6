-- For the contracts of private functions alone.
-- What a search works with, for a problem.
-- Shapes: `weak` has the bits of part A's coordinates; none of part B is weak.
use Rattle.std.specs.Prelude.{◌≡◌, ◌≤◌, ◌+◌, ℕ, List, [], length, vec_capacity}
use Rattle.std.specs.List.{AllByRecursion}
use Rattle.crn_vec.specs.declared.signs.Sign.{Sign}
use Rattle.crn_vec.specs.Problems.{Signed, IsPrefix, IsLawful}
use Rattle.crn_sign.specs.declared.bits.Bits.{Bits}
use Rattle.crn_sign.specs.Options.{word_count}
use Rattle.crn_sign.specs.declared.walk.Progress.{Progress}
use Rattle.crn_sign.specs.declared.walk.Level.{Level}
use Rattle.crn_sign.specs.Inner.Parts.{IsPart}
use Rattle.crn_sign.specs.Inner.Marks.{AreRowMarks}
use Rattle.crn_sign.specs.Inner.Places.{HasRoom, IsAround, IsAsked, IsFor, IsHere}

-- the parts have the problem's matrices, and the prefix has room for each choice
pub record IsReady (w : Signed) (s : Progress) : Type 0 where
  pub lawful : IsLawful w
  pub part_a : IsPart w.matrix_a s.a
  pub part_b : IsPart w.matrix_b s.b
  pub prefix : IsPrefix w s.prefix.items
  pub room : w.choices ≤ vec_capacity s.prefix

-- what both parts know at a prefix
pub record IsLevel (w : Signed) (weak : List ℕ) (p : List Sign) (l : Level) : Type 0 where
  pub a : IsHere w.matrix_a weak (w.kinds_a p) l.a
  pub b : IsHere w.matrix_b [] (w.kinds_b p) l.b

-- what is required of both parts at a prefix
pub record AreAsked (w : Signed) (weak : List ℕ) (p : List Sign) (l : Level) : Type 0 where
  pub a : IsAsked w.matrix_a weak (w.kinds_a p) l.a
  pub b : IsAsked w.matrix_b [] (w.kinds_b p) l.b

-- both parts have the marks of a vector
pub record AreMarked (w : Signed) (l : Level) : Type 0 where
  pub a : AreRowMarks w.matrix_a l.a.marks.items
  pub b : AreRowMarks w.matrix_b l.b.marks.items

-- the marks one level above suit what is required of both parts if they are said to
pub record AreFor (w : Signed) (weak : List ℕ) (above l : Level) : Type 0 where
  pub a : IsFor w.matrix_a weak above.a l.a
  pub b : IsFor w.matrix_b [] above.b l.b

-- the sums of a prefix, as its problem says what they are
pub record HasSums (w : Signed) (are_sums : List Sign → List Bits → Type 0) (p : List Sign) (l : Level)
    : Type 0 where
  pub count : length l.sums.items ≡ word_count w.matrix_a
  pub are : are_sums p l.sums.items

-- room for what is required of part A, and what is required of part B is right of what one choice more
-- leaves as it is
pub record AreAround (w : Signed) (p : List Sign) (l : Level) : Type 0 where
  pub a : HasRoom w.matrix_a l.a
  pub b : IsAround w.matrix_b w.kinds_b p l.b
  pub sums : length l.sums.items ≡ word_count w.matrix_a

-- room for what both parts know
pub record HasRooms (w : Signed) (l : Level) : Type 0 where
  pub a : HasRoom w.matrix_a l.a
  pub b : HasRoom w.matrix_b l.b
  pub sums : length l.sums.items ≡ word_count w.matrix_a

-- room for what is known at prefixes with one choice more, with two, and so on, to all
pub record AreRooms (w : Signed) (p : List Sign) (levels : List Level) : Type 0 where
  pub count : length p + length levels ≡ w.choices
  pub each : AllByRecursion (HasRooms w) levels

-- room for what is known at prefixes with two choices more, with three, and so on, to all
pub record AreRoomsBelow (w : Signed) (p : List Sign) (levels : List Level) : Type 0 where
  pub count : length p + 1 + length levels ≡ w.choices
  pub each : AllByRecursion (HasRooms w) levels

-- the same prefix, and as many visits left
pub record SamePlace (s t : Progress) : Type 0 where
  pub prefix : t.prefix.items ≡ s.prefix.items
  pub left : t.left ≡ s.left
