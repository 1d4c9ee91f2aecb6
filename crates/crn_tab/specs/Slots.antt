-- How a tableau keeps the vectors that its basis names, for a matrix with n columns and m rows.
-- Each coordinate has a slot: below n in the basis, n + i at row i. A row keeps the entries at the slots below n, then the one at its own slot.
use Rattle.std.specs.Int.{◌∣◌}
use Rattle.std.specs.Prelude.{List, [], drop, length, map, nat_eq, nat_lt, pos, slice_index, suc, take, unsigned_abs, ℕ, ℤ, ◌*◌, ◌+◌, ◌<◌, ◌∷◌, ◌≡◌, ◌≤ℤ◌, ◌≤◌}
use Rattle.crn_tab.specs.Tableau.{AreSmall, choose}
use Rattle.crn_vec.specs.Elementary.{InDualSpace, width}
use Rattle.crn_vec.specs.Vectors.{AreOfLength, Mat, entry}
use Rattle.crn_vec.specs.declared.limits.TheConstants.{MAX_COORDINATES}

-- the entry at slot s of the vector that row i keeps
abbrev pub slot_entry : ℕ → ℕ → List ℤ → ℕ → ℤ
slot_entry n i row s = choose (nat_lt s n) (entry row s) (choose (nat_eq s (n + i)) (entry row n) (pos 0))

-- the vector that row i keeps, by coordinates
abbrev pub spread : ℕ → ℕ → List ℤ → List ℕ → List ℤ
spread n i row at = map (slot_entry n i row) at

-- the coordinates from k on whose slot is below n
abbrev pub basis_from : ℕ → ℕ → List ℕ → List ℕ
basis_from k n [] = []
basis_from k n (s ∷ at) = choose (nat_lt s n) (k ∷ basis_from (suc k) n at) (basis_from (suc k) n at)

-- the coordinates whose slot is below n, ascending
abbrev pub basis_of : ℕ → List ℕ → List ℕ
basis_of n at = basis_from 0 n at

-- each of this many coordinates has a slot, and each slot a coordinate
pub record ArePlaced (n count : ℕ) (at order : List ℕ) : Type 0 where
  pub at_long : length at ≡ count
  pub order_long : length order ≡ count
  pub at_below : (k : ℕ) → k < count → slice_index at k < count
  pub order_below : (s : ℕ) → s < count → slice_index order s < count
  pub there : (k : ℕ) → k < count → slice_index order (slice_index at k) ≡ k
  pub back : (s : ℕ) → s < count → slice_index at (slice_index order s) ≡ s
  pub basis : length (basis_of n at) ≡ n

-- g is the greatest common divisor of the entries
pub record IsContent (v : List ℤ) (g : ℕ) : Type 0 where
  pub divides : (k : ℕ) → g ∣ unsigned_abs (entry v k)
  pub greatest : (d : ℕ) → ((k : ℕ) → d ∣ unsigned_abs (entry v k)) → d ∣ g

-- the row keeps a primitive vector (-uA, u), positive at its own slot
pub record IsRowAt (a : Mat) (at : List ℕ) (i : ℕ) (row : List ℤ) : Type 0 where
  pub long : length row ≡ a.cols + 1
  pub dual : InDualSpace a (spread a.cols i row at)
  pub positive : pos 1 ≤ℤ entry row a.cols
  pub primitive : IsContent row 1

-- row i of a list of rows of this many entries
abbrev pub row_at : ℕ → List ℤ → ℕ → List ℤ
row_at w rows i = take w (drop (i * w) rows)

-- every coordinate has a slot, and every row keeps the small primitive vector of its coordinate
pub record IsTableau (a : Mat) (at order : List ℕ) (rows : List ℤ) : Type 0 where
  pub wide : AreOfLength a.cols a.rows
  pub some : 1 ≤ a.cols
  pub few : width a ≤ MAX_COORDINATES
  pub placed : ArePlaced a.cols (width a) at order
  pub long : length rows ≡ length a.rows * (a.cols + 1)
  pub each : (i : ℕ) → i < length a.rows → IsRowAt a at i (row_at (a.cols + 1) rows i)
  pub small : AreSmall rows

-- the rows make a tableau, and the lists that an exchange works in are as long as a row
pub record IsWhole (a : Mat) (at order : List ℕ) (rows : List ℤ) (scratch : ℕ) : Type 0 where
  pub tableau : IsTableau a at order rows
  pub scratch_fits : scratch ≡ a.cols + 1
