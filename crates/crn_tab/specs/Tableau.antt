-- What a tableau shows: its matrix, its basis, and the vectors that the basis names.
-- Shapes: coordinates are counted from 0, the columns first and then the rows; `kinds` and `level` have a member for each.
use Rattle.std.specs.Prelude.{Bool, List, [], false, length, map, nat_eq, nat_lt, neg_ℤ, pos, slice_index, slice_index_or, suc, true, unsigned_abs, ℕ, ℤ, ◌+◌, ◌-◌, ◌<◌, ◌↔◌, ◌≡◌, ◌≢◌, ◌≤ℤ◌, ◌≤◌}
use Rattle.crn_vec.specs.Elementary.{Exchanged, IsBasis, IsNamed, IsNamedColumn, IsNamedRow, IsWideRow, WideAt, width}
use Rattle.crn_vec.specs.Lists.{IsIn}
use Rattle.crn_vec.specs.Rank.{IsChoice, IsRank}
use Rattle.crn_vec.specs.Systems.{MayWeigh, is_signed, kind_at}
use Rattle.crn_vec.specs.Vectors.{AreOfLength, HasSign, Mat, entry}
use Rattle.crn_vec.specs.declared.limits.TheConstants.{MAX_COORDINATES, WIDE_ENTRY}
use Rattle.crn_vec.specs.declared.signs.Kind.{Kind}
use Rattle.crn_vec.specs.declared.signs.Sign.{Sign}

-- its matrix and its basis, ascending; the rows follow from these up to their signs
pub record KeptTableau : Type 0 where
  pub matrix : Mat
  pub basis : List ℕ

-- each entry is below WIDE_ENTRY in absolute value
abbrev pub AreSmall : List ℤ → Type 0
AreSmall v = (k : ℕ) → unsigned_abs (entry v k) < WIDE_ENTRY

-- the vector that a coordinate outside the basis names, positive there and without a wide entry
pub record HasRow (a : Mat) (basis : List ℕ) (e : ℕ) : Type 0 where
  pub w : List ℤ
  pub named : IsNamed a basis e w
  pub positive : pos 1 ≤ℤ entry w e
  pub small : (k : ℕ) → unsigned_abs (entry w k) < WIDE_ENTRY

-- the matrix has rows of one length, and its basis names a kept vector, not a wide one, by each coordinate outside it
pub record NamesRows (a : Mat) (basis : List ℕ) : Type 0 where
  pub wide : AreOfLength a.cols a.rows
  pub some : 1 ≤ a.cols
  pub few : width a ≤ MAX_COORDINATES
  pub basis_is : IsBasis a basis
  pub narrow : (k : ℕ) → IsWideRow a basis k → ⊥
  pub rows : (e : ℕ) → e < width a → (IsIn e basis → ⊥) → HasRow a basis e

-- the ascending list with one coordinate in place of another, counted from 1
pub record IsNumbered (basis : List ℕ) (leave enter : ℕ) (numbers : List ℕ) : Type 0 where
  pub next : List ℕ
  pub numbered : numbers ≡ map suc next
  pub exchanged : Exchanged basis leave enter next

-- the exchange of a member for a coordinate outside names a wide vector
pub record IsRefused (a : Mat) (basis : List ℕ) (leave enter index : ℕ) : Type 0 where
  pub member : IsIn leave basis
  pub outside : IsIn enter basis → ⊥
  pub inside : enter < width a
  pub counted : 1 ≤ index
  pub wide : (next : List ℕ) → Exchanged basis leave enter next → WideAt a next (index - 1)

-- each vector that the basis names by this coordinate is zero at the coordinates before first
abbrev pub IsZeroBefore : Mat → List ℕ → ℕ → ℕ → Type 0
IsZeroBefore a basis first e = (w : List ℤ) → IsNamedRow a basis e w → (k : ℕ) → k < first → entry w k ≡ pos 0

-- of the coordinates from `first` on and before `end`, those outside the basis name vectors that are zero before first,
-- so that each of these coordinates is in the basis or depends on such coordinates in it
abbrev pub AreEnteredBelow : Mat → List ℕ → ℕ → ℕ → Type 0
AreEnteredBelow a basis first end = (e : ℕ) → first ≤ e → e < end → (IsIn e basis → ⊥) → IsZeroBefore a basis first e

-- the same of all coordinates from first on
abbrev pub AreEntered : Mat → List ℕ → ℕ → Type 0
AreEntered a basis first = AreEnteredBelow a basis first (width a)

-- the places of the rows whose coordinates are in the basis
pub record ArePlacesOfRows (a : Mat) (basis places : List ℕ) : Type 0 where
  pub choice : IsChoice (length a.rows) places
  pub members : (k : ℕ) → k < length a.rows → IsIn k places ↔ IsIn (a.cols + k) basis

-- if the rows have entered a basis as far as they can, as many as are in it are the rank of the rows
abbrev pub EnteredRowsGiveTheRank : Type 0
EnteredRowsGiveTheRank = (a : Mat) (basis places : List ℕ) → NamesRows a basis → AreEntered a basis a.cols → ArePlacesOfRows a basis places → IsRank a.rows (length places)

-- a vector that the basis names by a coordinate outside it, and of this sign there
abbrev pub IsRowOfSign : Mat → List ℕ → ℕ → Sign → List ℤ → Type 0
IsRowOfSign a basis e sign w = IsNamedRow a basis e w × HasSign sign (entry w e)

-- a vector that the basis names by a coordinate in it, and of this sign there
abbrev pub IsColumnOfSign : Mat → List ℕ → ℕ → Sign → List ℤ → Type 0
IsColumnOfSign a basis b sign y = IsNamedColumn a basis b y × HasSign sign (entry y b)

-- these vectors have what they may at each coordinate whose level is at least `from` and below `end`
abbrev pub AreRight : (List ℤ → Type 0) → (Kind → ℤ → Type 0) → List Kind → List ℕ → ℕ → ℕ → ℕ → Type 0
AreRight Named May kinds level count from end = (w : List ℤ) → Named w → (c : ℕ) → c < count → from ≤ slice_index level c → slice_index level c < end → May (kind_at kinds c) (entry w c)

-- these vectors do not have what they may at some coordinate of this level
pub record AreWrongAt (Named : List ℤ → Type 0) (May : Kind → ℤ → Type 0) (kinds : List Kind) (level : List ℕ) (count here : ℕ) : Type 0 where
  pub c : ℕ
  pub inside : c < count
  pub at : slice_index level c ≡ here
  pub wrong : (w : List ℤ) → Named w → May (kind_at kinds c) (entry w c) → ⊥

-- at the first `count` coordinates the list has the weights that it may, and one of them is not 0 and at a coordinate that has to be positive or negative
abbrev pub RulesBelow : List Kind → ℕ → List ℤ → Type 0
RulesBelow kinds count w = ((c : ℕ) → c < count → MayWeigh (kind_at kinds c) (entry w c)) × ((c : ℕ) × (c < count) × (is_signed (kind_at kinds c) ≡ true) × (entry w c ≢ pos 0))

-- the first if the test holds, else the second
abbrev pub choose : {A : Type 0} → Bool → A → A → A
choose true x y = x
choose false x y = y

-- the entry of (-A_i, e_i) at coordinate k: of minus row i of the matrix at a column, 1 at the row's own coordinate, else 0
abbrev pub first_entry : Mat → ℕ → ℕ → ℤ
first_entry a i k = choose (nat_lt k a.cols) (neg_ℤ (entry (slice_index_or a.rows i []) k)) (choose (nat_eq k (a.cols + i)) (pos 1) (pos 0))
