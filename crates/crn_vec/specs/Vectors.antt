-- Vectors of whole numbers as lists, and matrices as lists of rows.
use Rattle.std.specs.Prelude.{◌≡◌, ◌≢◌, ◌≤◌, ◌↔◌, ◌≤ℤ◌, Bool, IsTrue, ℕ, ℤ, pos, negsuc, zero, suc, ◌+ℤ◌, ◌*ℤ◌, unsigned_abs, List, [], ◌∷◌, length, take, drop, slice_index_or}
use Rattle.std.specs.List.{AllZip}
use Rattle.crn_vec.specs.declared.signs.Sign.{Sign}
use Rattle.crn_vec.specs.declared.signs.Sign.TheVariants.{Zero, Plus, Minus}

-- the entry at place k, 0 past the end
abbrev pub entry : List ℤ → ℕ → ℤ
entry v k = slice_index_or v k (pos 0)

-- the sum of the products, place by place
abbrev pub dot : List ℤ → List ℤ → ℤ
dot [] ys = pos 0
dot (x ∷ xs) [] = pos 0
dot (x ∷ xs) (y ∷ ys) = (x *ℤ y) +ℤ dot xs ys

-- each entry times a number
abbrev pub scale : ℤ → List ℤ → List ℤ
scale a [] = []
scale a (x ∷ xs) = (a *ℤ x) ∷ scale a xs

-- each entry is at most m in absolute value
abbrev pub AreWithin : ℕ → List ℤ → Type 0
AreWithin m [] = Unit {0}
AreWithin m (x ∷ xs) = (unsigned_abs x ≤ m) × AreWithin m xs

-- a matrix: the number of its columns, and its rows
pub record Mat : Type 0 where
  pub cols : ℕ
  pub rows : List (List ℤ)

-- each row has as many entries as there are columns
abbrev pub AreOfLength : ℕ → List (List ℤ) → Type 0
AreOfLength n [] = Unit {0}
AreOfLength n (r ∷ rs) = (length r ≡ n) × AreOfLength n rs

-- the entries of column j
abbrev pub column : List (List ℤ) → ℕ → List ℤ
column [] j = []
column (r ∷ rs) j = entry r j ∷ column rs j

-- the list cut into rows of `cols` entries each
abbrev pub rows_of : ℕ → ℕ → List ℤ → List (List ℤ)
rows_of zero cols xs = []
rows_of (suc rows) cols xs = take cols xs ∷ rows_of rows cols (drop cols xs)

-- a number has a sign
abbrev pub HasSign : Sign → ℤ → Type 0
HasSign Zero x = x ≡ pos 0
HasSign Plus x = pos 1 ≤ℤ x
HasSign Minus x = x ≤ℤ negsuc 0

-- a mark is true if and only if the entry is not zero
abbrev pub MarksSupport : List ℤ → List Bool → Type 0
MarksSupport v marks = AllZip (λ x mark. IsTrue mark ↔ (x ≢ pos 0)) v marks
