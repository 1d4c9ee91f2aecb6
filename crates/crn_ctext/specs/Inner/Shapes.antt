-- For the contracts of private functions alone.
-- The numbers of a record as one shape, and what judging them gives.
-- Source: this project's own. Shapes: reactions, complexes and classes count from 1.
use Rattle.std.specs.Prelude.{◌≡◌, ◌≤◌, ◌<◌, ◌↔◌, ℕ, ℤ, pos, unsigned_abs, Bool, true, false, Option, Some, None, List, [], ◌∷◌, length, map, suc, slice_index_or}
use Rattle.std.specs.Borrow.{Bor}
use Rattle.crn_vec.specs.Lists.{IsIn, IsAscending}
use Rattle.crn_vec.specs.declared.limits.TheConstants.{MAX_SPECIES, MAX_COMPLEXES, MAX_REACTIONS, WIDE_SOLUTION}
use Rattle.crn_io.specs.declared.lines.TheConstants.{MAX_NUMBERS}
use Rattle.std.specs.List.{AllByRecursion}
use Rattle.crn_ctext.specs.Records.{Field, Small, Several, Free, FreeSeveral, Rising, Members, CountAndPart, TwoOf, Turn, ClassWide, Takes, AreNarrow, AreOf}
use Rattle.crn_ctext.specs.Kinds.{small, just}
use Rattle.crn_ctext.specs.declared.record_shape.Shape.{Shape}
use Rattle.crn_ctext.specs.declared.record_shape.Shape.TheVariants as shape
use Rattle.crn_ctext.specs.declared.record_shape.Fit.{Fit}
use Rattle.crn_ctext.specs.declared.record_shape.Fit.TheVariants as fit

-- the fields of a shape
abbrev pub fields_of : Shape → List Field
fields_of shape.Empty = []
fields_of (shape.Small count range) = Small count range.least range.greatest ∷ []
fields_of (shape.Walk complexes) = Several 2 complexes (pos 1) (pos complexes) ∷ []
fields_of (shape.Free count) = Free count ∷ []
fields_of shape.Vector = FreeSeveral 1 MAX_NUMBERS ∷ []
fields_of (shape.Members count members) = Members count members.now ∷ []
fields_of (shape.CountAndPart greatest) = CountAndPart greatest ∷ []
fields_of (shape.TwoOf greatest) = TwoOf greatest ∷ []
fields_of shape.Turn = Turn ∷ []
fields_of (shape.ClassAndCount classes complexes) = small 1 1 classes ∷ small 1 2 complexes ∷ []
fields_of (shape.Side reaction complexes) = just reaction ∷ small complexes 0 1 ∷ []
fields_of (shape.Wide system columns coordinates) =
    just system ∷ just 0 ∷ small 1 1 coordinates ∷ Rising columns coordinates ∷ []
fields_of (shape.ClassWide species reactions) = just 3 ∷ ClassWide species reactions.now ∷ []

-- its numbers are free
abbrev pub has_free : Shape → Bool
has_free (shape.Free count) = true
has_free shape.Vector = true
has_free other = false

-- the bounds of its numbers are below those of free numbers, and lists are as they have to be
abbrev pub IsBounded : Field → Type 0
IsBounded (Small count least greatest) = (unsigned_abs least < WIDE_SOLUTION) × (unsigned_abs greatest < WIDE_SOLUTION)
IsBounded (Several fewest most least greatest) = (unsigned_abs least < WIDE_SOLUTION) × (unsigned_abs greatest < WIDE_SOLUTION)
IsBounded (Free count) = Unit {0}
IsBounded (FreeSeveral fewest most) = Unit {0}
IsBounded (Rising count greatest) = greatest < WIDE_SOLUTION
IsBounded (Members count members) = IsAscending members × AllByRecursion (λ m. m ≤ MAX_REACTIONS) members
IsBounded (CountAndPart greatest) = greatest < WIDE_SOLUTION
IsBounded (TwoOf greatest) = greatest < WIDE_SOLUTION
IsBounded Turn = Unit {0}
IsBounded (ClassWide species reactions) =
    (species ≤ MAX_SPECIES) × (length reactions ≤ MAX_COMPLEXES) × AllByRecursion (λ r. r ≤ MAX_REACTIONS) reactions

-- all fields of a shape are bounded
abbrev pub HasBounds : Shape → Type 0
HasBounds s = AllByRecursion IsBounded (fields_of s)

-- the numbers are ascending members of the list
abbrev pub AreMembers : List ℕ → List ℤ → Type 0
AreMembers members zs = (ns : List ℕ) × (zs ≡ map pos ns) × IsAscending ns × AllByRecursion (λ n. IsIn n members) ns

-- a number of this range comes first, and the rest is of what is after it
abbrev pub TakesFirst : List ℤ → (least greatest : ℕ) → Option (Bor (List ℤ)) → Type 0
TakesFirst numbers least greatest None = (fields : List Field) → AreOf Takes (small 1 least greatest ∷ fields) numbers → ⊥
TakesFirst numbers least greatest (Some rest) = (fields : List Field) → AreOf Takes (small 1 least greatest ∷ fields) numbers ↔ AreOf Takes fields rest.now

-- the first number is of a place below this, counted from 0 while numbers count from 1
abbrev pub IsPlaceIn : List ℤ → (count : ℕ) → Option ℕ → Type 0
IsPlaceIn numbers count None = (k : ℕ) → slice_index_or numbers 0 (pos 0) ≡ pos (suc k) → k < count → ⊥
IsPlaceIn numbers count (Some k) = (k < count) × (slice_index_or numbers 0 (pos 0) ≡ pos (suc k))

-- The numbers `zs`, held as `held`, fit the fields, or fit them but for free ones that are too great, or do not fit.
abbrev pub IsJudged : Fit → List Field → (zs held : List ℤ) → Type 0
IsJudged fit.Misfit fields zs held = AreOf Takes fields zs → ⊥
IsJudged fit.TooWide fields zs held =
    AreOf Takes fields zs × (AreOf (λ field part. Takes field part × AreNarrow field part) fields zs → ⊥)
IsJudged fit.Fits fields zs held =
    AreOf Takes fields zs × AreOf (λ field part. Takes field part × AreNarrow field part) fields zs × (held ≡ zs)
