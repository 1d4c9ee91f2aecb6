-- For the contracts of private functions alone. The vector (x, Ax) that a basis names by a coordinate in it, from the rows of a tableau.
-- Its entry at the coordinate of row i is minus the row's entry at the slot, times a scale, over the row's own entry.
use Rattle.std.specs.Int.{IsGcd, ◌∣◌}
use Rattle.std.specs.Prelude.{List, int_div, map, nat_eq, nat_lt, neg_ℤ, pos, unsigned_abs, ℕ, ℤ, ◌*ℤ◌, ◌*◌, ◌+◌, ◌-◌, ◌<◌, ◌≡◌, ◌≤◌}
use Rattle.crn_frac.specs.Multiple.{IsLcm}
use Rattle.crn_tab.specs.Slots.{row_at}
use Rattle.crn_tab.specs.Tableau.{choose}
use Rattle.crn_vec.specs.Vectors.{entry}
use Rattle.crn_vec.specs.declared.limits.TheConstants.{WIDE_ENTRY}

-- x times the entry at slot c is a multiple of the row's own entry, in each row before row i
abbrev pub MakesWhole : ℕ → ℕ → List ℤ → ℕ → ℕ → Type 0
MakesWhole n c rows i x = (j : ℕ) → j < i → unsigned_abs (entry (row_at (n + 1) rows j) n) ∣ unsigned_abs (entry (row_at (n + 1) rows j) c) * x

-- the least positive number that does so: each other is a multiple of it
pub record IsScale (n c : ℕ) (rows : List ℤ) (i l : ℕ) : Type 0 where
  pub some : 1 ≤ l
  pub whole : MakesWhole n c rows i l
  pub least : (x : ℕ) → MakesWhole n c rows i x → l ∣ x

-- the scale of some first rows is WIDE_ENTRY or more
pub record HasWideScale (n c m : ℕ) (rows : List ℤ) : Type 0 where
  pub i : ℕ
  pub inside : i ≤ m
  pub l : ℕ
  pub is : IsScale n c rows i l
  pub wide : WIDE_ENTRY ≤ l

-- k is the least common multiple of l and of the denominator of a fraction, reduced
pub record IsScaledBy (num den : ℤ) (l k : ℕ) : Type 0 where
  pub g : ℕ
  pub gcd : IsGcd (unsigned_abs num) (unsigned_abs den) g
  pub q : ℕ
  pub reduced : q * g ≡ unsigned_abs den
  pub is : IsLcm l q k

-- the entry at slot s
abbrev pub column_entry : ℕ → ℕ → List ℤ → ℕ → ℕ → ℤ
column_entry n c rows l s =
    choose (nat_lt s n) (choose (nat_eq s c) (pos l) (pos 0)) (int_div (neg_ℤ (entry (row_at (n + 1) rows (s - n)) c *ℤ pos l)) (entry (row_at (n + 1) rows (s - n)) n))

-- the vector by coordinates
abbrev pub column_of : ℕ → ℕ → List ℤ → ℕ → List ℕ → List ℤ
column_of n c rows l at = map (column_entry n c rows l) at
