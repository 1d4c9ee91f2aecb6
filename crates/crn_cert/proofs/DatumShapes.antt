-- Data that fit fields are those of a tuple of numbers and lists, whatever the fields.
use Rattle.crn_cert.proofs.Prelude.{◌≡◌, ℕ, List, [], ◌∷◌, map, refl, ap₂, ℤ, Option, Some, None, AllZip, Datum, Num, Int, Nums, Ints, Marks, Led, Basis, Field, CountAndPart, TwoOf, Several, OneAnd, Walk, Members, Free, FreeSeveral, Turn, Shelves, Side, WideOf, ClassWide, Row, FitsRow, FitsFields}
use Rattle.crn_cert.specs.Data.{Two, One, Wide, Fits}

-- what a field has
abbrev pub Of : Field → Type 0
Of (One least greatest) = ℕ
Of (CountAndPart greatest) = ℕ × ℕ
Of (TwoOf greatest) = ℕ × ℕ
Of (Several count least greatest) = List ℕ
Of (OneAnd count least greatest) = ℕ × List ℕ
Of (Walk greatest) = List ℕ
Of (Members count members) = List ℕ
Of Free = ℤ
Of (FreeSeveral count) = List ℤ
Of Turn = ℤ
Of (Shelves count) = List ℤ
Of (Side reaction count) = ℕ × List ℤ
Of (Wide s columns rows) = ℕ × ℕ × ℕ × List ℕ
Of (WideOf s columns rows may t more_columns more_rows) = ℕ × ℕ × ℕ × List ℕ
Of (ClassWide s columns classes rows) = ℕ × ℕ × ℕ × List ℕ

-- as a datum
abbrev pub datum : (f : Field) → Of f → Datum
datum (One least greatest) n = Num n
datum (CountAndPart greatest) n = Two n.0 n.1
datum (TwoOf greatest) n = Two n.0 n.1
datum (Several count least greatest) xs = Nums xs
datum (OneAnd count least greatest) n = Led n.0 n.1
datum (Walk greatest) xs = Nums xs
datum (Members count members) xs = Nums xs
datum Free z = Int z
datum (FreeSeveral count) zs = Ints zs
datum Turn z = Int z
datum (Shelves count) zs = Ints zs
datum (Side reaction count) m = Marks m.0 m.1
datum (Wide s columns rows) b = Basis b.0 b.1 b.2 b.3
datum (WideOf s columns rows may t more_columns more_rows) b = Basis b.0 b.1 b.2 b.3
datum (ClassWide s columns classes rows) b = Basis b.0 b.1 b.2 b.3

-- what some fields have
abbrev pub AllOf : List Field → Type 0
AllOf [] = Unit {0}
AllOf (f ∷ fs) = Of f × AllOf fs

abbrev pub given : (fs : List Field) → AllOf fs → List Datum
given [] a = []
given (f ∷ fs) a = datum f a.0 ∷ given fs a.1

one_back : (f : Field) (d : Datum) → Fits f d → (x : Of f) × (d ≡ datum f x)
one_back (One least greatest) (Num n) f = (n, refl)
one_back (CountAndPart greatest) (Two n m) f = ((n, m), refl)
one_back (TwoOf greatest) (Two n m) f = ((n, m), refl)
one_back (Several count least greatest) (Nums xs) f = (xs, refl)
one_back (OneAnd count least greatest) (Led n xs) f = ((n, xs), refl)
one_back (Walk greatest) (Nums xs) f = (xs, refl)
one_back (Members count members) (Nums xs) f = (xs, refl)
one_back Free (Int z) f = (z, refl)
one_back (FreeSeveral count) (Ints zs) f = (zs, refl)
one_back Turn (Int z) f = (z, refl)
one_back (Shelves count) (Ints zs) f = (zs, refl)
one_back (Side reaction count) (Marks n zs) f = ((n, zs), refl)
one_back (Wide s columns rows) (Basis system class index basis) f = ((system, class, index, basis), refl)
one_back (WideOf s columns rows may t more_columns more_rows) (Basis system class index basis) f = ((system, class, index, basis), refl)
one_back (ClassWide s columns classes rows) (Basis system class index basis) f = ((system, class, index, basis), refl)
one_back f d h = absurd h

pub fields_back : (fs : List Field) (ds : List Datum) → AllZip Fits fs ds → (a : AllOf fs) × (ds ≡ given fs a)
fields_back [] [] f = (tt, refl)
fields_back (field ∷ fs) (d ∷ ds) f =
    let one = one_back field d f.0 in
    let more = fields_back fs ds f.1 in
    ((one.0, more.0), ap₂ (λ (x : Datum) (xs : List Datum). x ∷ xs) one.1 more.1)
fields_back fs ds f = absurd f

-- of a head and of records below it

abbrev pub fields_in : Option (List Field) → List Field
fields_in None = []
fields_in (Some fs) = fs

pub head_back : (o : Option (List Field)) (h : List Datum) → FitsFields o h → (a : AllOf (fields_in o)) × (h ≡ given (fields_in o) a)
head_back None h f = absurd f
head_back (Some fs) h f = fields_back fs h f

abbrev pub fields_of : List Row → List Field
fields_of rs = map (λ (r : Row). r.field) rs

as_fields : (rs : List Row) (ds : List Datum) → AllZip FitsRow rs ds → AllZip Fits (fields_of rs) ds
as_fields [] [] f = tt
as_fields (r ∷ rs) (d ∷ ds) f = (f.0, as_fields rs ds f.1)
as_fields rs ds f = absurd f

pub rows_back : (rs : List Row) (ds : List Datum) → AllZip FitsRow rs ds → (a : AllOf (fields_of rs)) × (ds ≡ given (fields_of rs) a)
rows_back rs ds f = fields_back (fields_of rs) ds (as_fields rs ds f)
