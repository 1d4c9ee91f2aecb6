-- For the contracts of private functions alone. How an exchange makes the new rows.
-- The lead is the row of the entering coordinate in its new places.
use Rattle.std.specs.Prelude.{Bool, IsTrue, List, false, length, negsuc, pos, slice_index, slice_set, true, unsigned_abs, ℕ, ℤ, ◌*ℤ◌, ◌+◌, ◌-ℤ◌, ◌-◌, ◌<◌, ◌^◌, ◌≡◌, ◌≢◌, ◌≤ℤ◌, ◌≤◌, ◌⊎◌}
use Rattle.crn_tab.specs.Slots.{IsContent, row_at}
use Rattle.crn_tab.specs.Tableau.{AreSmall}
use Rattle.crn_vec.specs.Elementary.{IsWide}
use Rattle.crn_vec.specs.Lists.{IsIn}
use Rattle.crn_vec.specs.Vectors.{entry}

-- each entry is below a bound in absolute value
abbrev pub AreBelow : ℕ → List ℤ → Type 0
AreBelow bound v = (k : ℕ) → unsigned_abs (entry v k) < bound

-- the same of the entries of each of the first m rows
abbrev pub AreRowsBelow : ℕ → ℕ → ℕ → List ℤ → Type 0
AreRowsBelow bound w m rows = (i : ℕ) → i < m → AreBelow bound (row_at w rows i)

-- the entries are low, below 2^30 in absolute value, or short, below 2^14, if it is said, and the spare list has room for as many
pub record AreRows (entries : List ℤ) (low short : Bool) (spare_room : ℕ) : Type 0 where
  pub low_is : IsTrue low → AreBelow (2 ^ 30) entries
  pub short_is : IsTrue short → AreBelow (2 ^ 14) entries
  pub spare_fits : length entries ≤ spare_room

-- each list is as long as a row of w entries, or has room for as many places
pub record IsScratch (w room : ℕ) (work narrow_lead narrow_work : List ℤ) : Type 0 where
  pub places_fit : w ≤ room
  pub work_long : length work ≡ w
  pub narrow_lead_long : length narrow_lead ≡ w
  pub narrow_work_long : length narrow_work ≡ w

-- each slot has one of as many coordinates
abbrev pub AreCoordinates : List ℕ → Type 0
AreCoordinates order = (s : ℕ) → s < length order → slice_index order s < length order

-- the list holds each place where the row is not 0, and places of the row alone, ascending
pub record ArePlaces (row : List ℤ) (places : List ℕ) : Type 0 where
  pub ascending : (i j : ℕ) → i < j → j < length places → slice_index places i < slice_index places j
  pub inside : (k : ℕ) → IsIn k places → k < length row
  pub all : (k : ℕ) → k < length row → entry row k ≢ pos 0 → IsIn k places

-- z is u divided by its greatest common divisor
pub record IsPrimitivePart (u z : List ℤ) : Type 0 where
  pub t : ℤ
  pub some : pos 1 ≤ℤ t
  pub content : IsContent u (unsigned_abs t)
  pub parts : (k : ℕ) → k < length u → entry z k *ℤ t ≡ entry u k

-- z is p w - q v, divided by a number, and primitive
pub record IsCombined (p q : ℤ) (w v z : List ℤ) : Type 0 where
  pub t : ℤ
  pub some : pos 1 ≤ℤ t
  pub long : length z ≡ length w
  pub is : (k : ℕ) → entry z k *ℤ t ≡ (p *ℤ entry w k) -ℤ (q *ℤ entry v k)
  pub primitive : IsContent z 1

-- the row keeps z, if each entry is small
abbrev pub IsFit : List ℤ → List ℤ → Bool → Type 0
IsFit z row true = (row ≡ z) × AreSmall z
IsFit z row false = IsWide z

-- the list with x at place k
abbrev pub put : List ℤ → ℕ → ℤ → List ℤ
put v k x = slice_set v k x

-- z is the new row of old: a difference that takes lead's coordinate out, in the new places.
-- Place c of lead is that of the entering coordinate, which old doesn't have; place n, the last, is that of the leaving one, which lead alone has.
pub record IsNewRow (n c : ℕ) (old lead z : List ℤ) : Type 0 where
  pub p : ℤ
  pub q : ℤ
  pub some : pos 1 ≤ℤ p
  pub gone : p *ℤ entry old c ≡ q *ℤ entry lead n
  pub is : IsCombined p q (put old c (pos 0)) (put lead n (pos 0)) z

-- what a row holds, whatever its slots mean
pub record IsKeptRow (w : ℕ) (row : List ℤ) : Type 0 where
  pub long : length row ≡ w
  pub positive : pos 1 ≤ℤ entry row (w - 1)
  pub primitive : IsContent row 1
  pub small : AreSmall row

-- the new row i, kept in its place or too wide and then not before the least coordinate so far
pub record IsRowDone (w c i : ℕ) (rows lead spare : List ℤ) (least own : ℕ) : Type 0 where
  pub z : List ℤ
  pub is : IsNewRow (w - 1) c (row_at w rows i) lead z
  pub fits : (AreSmall z × (row_at w spare i ≡ z)) ⊎ (IsWide z × (least ≤ own))

-- row i is its new row, with small entries
pub record IsRowChanged (w c i : ℕ) (rows lead new : List ℤ) : Type 0 where
  pub is : IsNewRow (w - 1) c (row_at w rows i) lead (row_at w new i)
  pub small : AreSmall (row_at w new i)

-- some new row is wide at this coordinate
pub record HasWideRow (w m c r : ℕ) (rows lead : List ℤ) (order : List ℕ) (least : ℕ) : Type 0 where
  pub i : ℕ
  pub inside : i < m
  pub other : i ≢ r
  pub own : least ≡ slice_index order (w - 1 + i)
  pub z : List ℤ
  pub is : IsNewRow (w - 1) c (row_at w rows i) lead z
  pub wide : IsWide z

-- the exchanged row in its new places, with the sign that makes its own entry positive
pub record IsLead (w c : ℕ) (row lead : List ℤ) : Type 0 where
  pub sign : ℤ
  pub unit : (sign ≡ pos 1) ⊎ (sign ≡ negsuc 0)
  pub long : length lead ≡ w
  pub leaves : entry lead (w - 1) ≡ sign *ℤ entry row c
  pub enters : entry lead c ≡ sign *ℤ entry row (w - 1)
  pub others : (k : ℕ) → k ≢ c → k ≢ (w - 1) → entry lead k ≡ sign *ℤ entry row k
  pub positive : pos 1 ≤ℤ entry lead (w - 1)

-- the new row i, small or too wide and then not before the least coordinate so far
pub record IsRowMade (w c i : ℕ) (rows lead : List ℤ) (least own : ℕ) : Type 0 where
  pub z : List ℤ
  pub is : IsNewRow (w - 1) c (row_at w rows i) lead z
  pub fits : AreSmall z ⊎ (IsWide z × (least ≤ own))

-- all new rows but row r are made, and are in their places with the lead as row r, or some new row is wide
pub record AreFilled (w m c r : ℕ) (rows new : List ℤ) (order : List ℕ) (least : ℕ) : Type 0 where
  pub lead : List ℤ
  pub is : IsLead w c (row_at w rows r) lead
  pub made : (i : ℕ) → i < m → i ≢ r → IsRowMade w c i rows lead least (slice_index order (w - 1 + i))
  pub last : ((least ≡ length order) × (row_at w new r ≡ lead) × ((i : ℕ) (lt : i < m) (ne : i ≢ r) → row_at w new i ≡ (made i lt ne).z)) ⊎ HasWideRow w m c r rows lead order least
