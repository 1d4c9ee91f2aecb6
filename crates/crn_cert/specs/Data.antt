-- Numbers that follow one another in a record, and what a field of a form requires of them.
-- Source: this project's own format.
use Rattle.std.specs.Prelude.{◌≡◌, ◌≢◌, ◌≤◌, ◌⊎◌, ◌+◌, ℕ, ℤ, Bool, true, List, length}
use Rattle.std.specs.List.{AllByRecursion}
use Rattle.crn_vec.specs.Lists.{IsIn, IsAscending}
use Rattle.crn_cert.specs.Ranges.{IsFrom, IsNarrow, AreFrom, AreFree, AreBits}
use Rattle.crn_cert.specs.Says.{IsTurn, IsShelf}

-- what is in a record: a natural, two of them, a whole number, lists of these, a natural and marks
-- or more naturals, or a vector by its system, class, index and basis
pub data Datum : Type 0 where
  -- what no record has
  Odd : Datum
  Num : ℕ → Datum
  Two : ℕ → ℕ → Datum
  Int : ℤ → Datum
  Nums : List ℕ → Datum
  Ints : List ℤ → Datum
  Marks : ℕ → List ℤ → Datum
  Led : ℕ → List ℕ → Datum
  Basis : (system class index : ℕ) → List ℕ → Datum

-- what follows the words of a record
pub data Field : Type 0 where
  -- a natural from the least to the greatest
  One : (least greatest : ℕ) → Field
  -- a natural from 1 to the greatest, and one from 1 to that
  CountAndPart : (greatest : ℕ) → Field
  -- two different naturals from 1 to the greatest
  TwoOf : (greatest : ℕ) → Field
  -- this many naturals from the least to the greatest
  Several : (count least greatest : ℕ) → Field
  -- a natural from the least to the greatest, and this many more
  OneAnd : (count least greatest : ℕ) → Field
  -- at least two and at most this many naturals from 1 to this number
  Walk : (greatest : ℕ) → Field
  -- this many of these, ascending
  Members : (count : ℕ) → (members : List ℕ) → Field
  -- a number of a certificate, and this many
  Free : Field
  FreeSeveral : (count : ℕ) → Field
  -- 1 or -1; this many of 1, 0 and -1
  Turn : Field
  Shelves : (count : ℕ) → Field
  -- this natural, and this many of 0 and 1
  Side : (reaction count : ℕ) → Field
  -- no class, a coordinate and a basis of the system with this many columns and rows
  Wide : (system columns rows : ℕ) → Field
  -- the same of one of two systems, of the second if it may be
  WideOf : (system columns rows : ℕ) → (may : Bool) → (second more_columns more_rows : ℕ) → Field
  -- the same of one of these classes, each with its own number of rows
  ClassWide : (system columns classes : ℕ) → (rows : ℕ → ℕ) → Field

-- a walk over complexes that count to this number
pub record IsWalkOf (greatest : ℕ) (walk : List ℕ) : Type 0 where
  pub some : 2 ≤ length walk
  pub few : length walk ≤ greatest
  pub each : AllByRecursion (IsFrom 1 greatest) walk

-- an index and a basis of a system with these numbers of columns and rows
pub record IsBasisOf (columns rows index : ℕ) (basis : List ℕ) : Type 0 where
  pub coordinate : IsFrom 1 (columns + rows) index
  pub members : AreFrom columns 1 (columns + rows) basis
  pub ascending : IsAscending basis

-- `count` shelves, each 1, 0 or -1
pub record AreShelves (count : ℕ) (xs : List ℤ) : Type 0 where
  pub long : length xs ≡ count
  pub each : AllByRecursion IsShelf xs

-- a field has these numbers
abbrev pub Fits : Field → Datum → Type 0
Fits (One least greatest) (Num n) = IsFrom least greatest n
Fits (CountAndPart greatest) (Two n m) = IsFrom 1 greatest n × IsFrom 1 n m
Fits (TwoOf greatest) (Two n m) = IsFrom 1 greatest n × IsFrom 1 greatest m × (n ≢ m)
Fits (Several count least greatest) (Nums xs) = AreFrom count least greatest xs
Fits (OneAnd count least greatest) (Led n xs) = IsFrom least greatest n
    × AreFrom count least greatest xs
Fits (Walk greatest) (Nums xs) = IsWalkOf greatest xs
Fits (Members count members) (Nums xs) = (length xs ≡ count) × IsAscending xs
    × ((r : ℕ) → IsIn r xs → IsIn r members)
Fits Free (Int z) = IsNarrow z
Fits (FreeSeveral count) (Ints zs) = AreFree count zs
Fits Turn (Int z) = IsTurn z
Fits (Shelves count) (Ints zs) = AreShelves count zs
Fits (Side reaction count) (Marks n zs) = (n ≡ reaction) × AreBits count zs
Fits (Wide s columns rows) (Basis system class index basis) = (system ≡ s) × (class ≡ 0)
    × IsBasisOf columns rows index basis
Fits (WideOf s columns rows may t more_columns more_rows) (Basis system class index basis) =
    ((system ≡ s) × (class ≡ 0) × IsBasisOf columns rows index basis)
    ⊎ ((system ≡ t) × (class ≡ 0) × (may ≡ true) × IsBasisOf more_columns more_rows index basis)
Fits (ClassWide s columns classes rows) (Basis system class index basis) = (system ≡ s)
    × IsFrom 1 classes class × IsBasisOf columns (rows class) index basis
Fits field datum = ⊥
