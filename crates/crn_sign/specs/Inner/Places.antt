-- For the contracts of private functions alone.
-- What a part knows at a prefix.
-- Shapes: `kinds` has a member for each coordinate, `settled` lists coordinates, counted from 0, and
-- `weak` has their bits.
use Rattle.std.specs.Prelude.{◌≡◌, ◌<◌, ℕ, List, [], ◌∷◌, ◌++◌, length, IsTrue}
use Rattle.crn_vec.specs.declared.signs.Sign.{Sign}
use Rattle.crn_vec.specs.declared.signs.Kind.{Kind}
use Rattle.crn_vec.specs.Vectors.{Mat}
use Rattle.crn_vec.specs.Lists.{IsIn}
use Rattle.crn_vec.specs.Elementary.{width}
use Rattle.crn_vec.specs.Systems.{kind_at}
use Rattle.crn_sign.specs.declared.place.Place.{Place}
use Rattle.crn_sign.specs.Options.{kind_in, word_count}
use Rattle.crn_sign.specs.Inner.Marks.{AreRowMarks, AreSuited, kinds_of}

-- the lists have room for the coordinates
pub record HasRoom (a : Mat) (l : Place) : Type 0 where
  pub width_is : l.width ≡ width a
  pub asked : length l.asked.items ≡ word_count a
  pub marks : length l.marks.items ≡ word_count a

-- the marks are of a vector (x, Ax), and suit the kinds that are required if they are said to
pub record IsPlace (a : Mat) (weak : List ℕ) (l : Place) : Type 0 where
  pub width_is : l.width ≡ width a
  pub asked : length l.asked.items ≡ word_count a
  pub marks : AreRowMarks a l.marks.items
  pub suits : IsTrue l.suits → AreSuited (kinds_of a weak l.asked.items) l.marks.items

-- and the kinds are these
pub record IsHere (a : Mat) (weak : List ℕ) (kinds : List Kind) (l : Place) : Type 0 where
  pub place : IsPlace a weak l
  pub kinds_are : kinds_of a weak l.asked.items ≡ kinds

-- what is required is of these kinds
pub record IsAsked (a : Mat) (weak : List ℕ) (kinds : List Kind) (l : Place) : Type 0 where
  pub room : HasRoom a l
  pub kinds_are : kinds_of a weak l.asked.items ≡ kinds

-- the marks one level above suit what is required if they are said to
pub record IsFor (a : Mat) (weak : List ℕ) (above l : Place) : Type 0 where
  pub room : HasRoom a l
  pub suits : IsTrue l.suits → AreSuited (kinds_of a weak l.asked.items) above.marks.items

-- what is required is right of all coordinates whose kinds one choice more leaves as they are
pub record IsAround (a : Mat) (kinds : List Sign → List Kind) (p : List Sign) (l : Place)
    : Type 0 where
  pub room : HasRoom a l
  pub same : (k : ℕ) → k < width a
      → ((s : Sign) → kind_at (kinds (p ++ s ∷ [])) k ≡ kind_at (kinds p) k)
      → kind_in l.asked.items k ≡ kind_at (kinds p) k

-- the kind of a coordinate is required, and all else is as before
pub record IsSettledAt (a : Mat) (kinds : List Kind) (k : ℕ) (old new : Place) : Type 0 where
  pub width_is : new.width ≡ old.width
  pub count : length new.asked.items ≡ length old.asked.items
  pub marks : new.marks.items ≡ old.marks.items
  pub here : k < width a → kind_in new.asked.items k ≡ kind_at kinds k
  pub others : (j : ℕ) → (j ≡ k → ⊥) → kind_in new.asked.items j ≡ kind_in old.asked.items j

-- what is known before the kinds at some coordinates are required
pub record IsSettling (a : Mat) (kinds : List Kind) (settled : List ℕ) (l : Place) : Type 0 where
  pub room : HasRoom a l
  pub same : (k : ℕ) → k < width a → (IsIn k settled → ⊥)
      → kind_in l.asked.items k ≡ kind_at kinds k
