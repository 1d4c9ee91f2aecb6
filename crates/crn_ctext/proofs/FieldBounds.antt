-- The most numbers of a field of the table of blocks and the greatest of them, and so the bound of a head and of the records below it.
use Rattle.crn_ctext.proofs.Prelude.{◌≡◌, ◌≤◌, ◌<◌, ◌+◌, ◌^◌, ℕ, Bool, true, false, List, [], ◌∷◌, length, map, refl, inl, inr, arith, pos, AllByRecursion, AllZip, flat_map, range_with_len, length-append, length-map, length-range_with_len, all_from, all_in, IsIn, Datum, OneAnd, Walk, FreeSeveral, Shelves, Side, WideOf, Row, FitsRow, Question, Q1, HeadKind, Yes, words, head_word, ways, if_may, wide_numbers, most_of}
use Rattle.crn_cert.specs.Data.{Field, Fits, One, CountAndPart, TwoOf, Several, Members, Free, Turn, Wide, ClassWide}
use Rattle.crn_ctext.specs.Records as records
use Rattle.crn_ctext.proofs.Forms.{numbers_of, head_record, row_records}
use Rattle.crn_ctext.proofs.FieldsSaid.{field_said}
use Rattle.crn_ctext.proofs.Bounded.{IsSlim, AreSlim, IsBoundedField, IsPlain, word_fits, words_fit, fields_width, fields_short as fields_slim, short_append}
use Rattle.crn_ctext.proofs.ShortAnswers.{AllPlain}

-- the most numbers of a field
abbrev pub widest : Field → ℕ
widest (One least greatest) = 1
widest (CountAndPart greatest) = 2
widest (TwoOf greatest) = 2
widest (Several count least greatest) = count
widest (OneAnd count least greatest) = 1 + count
widest (Walk greatest) = greatest
widest (Members count members) = count
widest Free = 1
widest (FreeSeveral count) = count
widest Turn = 1
widest (Shelves count) = count
widest (Side reaction count) = 1 + count
widest (Wide s columns rows) = 3 + columns
widest (WideOf s columns rows may t more_columns more_rows) = 3 + columns + more_columns
widest (ClassWide s columns classes rows) = 3 + columns

-- the members of a list together
abbrev pub total : List ℕ → ℕ
total [] = 0
total (x ∷ xs) = x + total xs

-- no number of a field is greater, but for free ones
abbrev pub highest : Field → ℕ
highest (One least greatest) = least + greatest
highest (CountAndPart greatest) = greatest
highest (TwoOf greatest) = greatest
highest (Several count least greatest) = least + greatest
highest (OneAnd count least greatest) = least + greatest
highest (Walk greatest) = greatest
highest (Members count members) = total members
highest Free = 0
highest (FreeSeveral count) = 0
highest Turn = 1
highest (Shelves count) = 1
highest (Side reaction count) = 1 + reaction
highest (Wide s columns rows) = s + columns + rows
highest (WideOf s columns rows may t more_columns more_rows) = s + columns + rows + t + more_columns + more_rows
highest (ClassWide s columns classes rows) = s + columns + classes + total (map rows (range_with_len 1 classes))

-- of some fields together
abbrev pub widest_of : List Field → ℕ
widest_of [] = 0
widest_of (f ∷ fs) = widest f + widest_of fs

abbrev pub highest_of : List Field → ℕ
highest_of [] = 0
highest_of (f ∷ fs) = highest f + highest_of fs

-- the fields of a line have few numbers, none of them great
abbrev pub AreLight : List Field → Type 0
AreLight fs = (widest_of fs ≤ 400) × (highest_of fs < 10 ^ 22)

-- ---- the numbers of a field

pub in_total : (xs : List ℕ) (x : ℕ) → IsIn x xs → x ≤ total xs
in_total [] x i = absurd i
in_total (y ∷ xs) x (inl e) = omega (arith, e)
in_total (y ∷ xs) x (inr i) = omega (arith, in_total xs x i)

-- a way in which its numbers are ranged has no more of them than this, with short bounds
abbrev IsLightWay : ℕ → List records.Field → Type 0
IsLightWay n way = AllByRecursion IsBoundedField way × (most_of way ≤ n)

wide_light : (s columns rows n : ℕ) → s + columns + rows < 10 ^ 22 → 3 + columns ≤ n → IsLightWay n (wide_numbers s columns rows)
wide_light s columns rows n lt le = (((omega arith, omega arith), ((omega arith, omega arith), ((omega arith, omega arith), (omega arith, tt)))), omega arith)

if_light : (n : ℕ) (may : Bool) (way : List records.Field) → IsLightWay n way → AllByRecursion (IsLightWay n) (if_may may way)
if_light n true way light = (light, tt)
if_light n false way light = tt

ways_light : (f : Field) → highest f < 10 ^ 22 → AllByRecursion (IsLightWay (widest f)) (ways f)
ways_light (CountAndPart greatest) lt = (((omega arith, tt), omega arith), tt)
ways_light (TwoOf greatest) lt = (((omega arith, tt), omega arith), tt)
ways_light (Members count members) lt = (((all_from (λ n. IsSlim (pos n)) members (λ n i. omega (arith, lt, in_total members n i)), tt), omega arith), tt)
ways_light Free lt = (((tt, tt), omega arith), tt)
ways_light (FreeSeveral count) lt = (((tt, tt), omega arith), tt)
ways_light Turn lt = (((tt, tt), omega arith), tt)
ways_light (Side reaction count) lt = ((((omega arith, omega arith), ((omega arith, omega arith), tt)), omega arith), tt)
ways_light (Wide s columns rows) lt = (wide_light s columns rows (3 + columns) (omega arith) (omega arith), tt)
ways_light (WideOf s columns rows may t more_columns more_rows) lt =
    let n = 3 + columns + more_columns in
    (wide_light s columns rows n (omega arith) (omega arith), if_light n may (wide_numbers t more_columns more_rows) (wide_light t more_columns more_rows n (omega arith) (omega arith)))
ways_light (ClassWide s columns classes rows) lt =
    let sizes = map rows (range_with_len 1 classes) in
    let each = all_from (λ r. IsSlim (pos (columns + r))) sizes (λ r i. omega (arith, lt, in_total sizes r i)) in
    ((((omega arith, omega arith), ((each, omega (arith, lt, length-map (range_with_len 1 classes) rows, length-range_with_len 1 classes)), tt)), omega arith), tt)
ways_light f lt = ((((omega arith, omega arith), tt), omega arith), tt)

-- the numbers are no more than the field has, and short
field_short : (f : Field) (d : Datum) → Fits f d → highest f < 10 ^ 22 → (length (numbers_of d) ≤ widest f) × AreSlim (numbers_of d)
field_short f d fits lt =
    let said = field_said f d fits in
    let light = all_in (IsLightWay (widest f)) (ways f) said.0 (ways_light f lt) said.1 in
    (omega (arith, fields_width said.0 (numbers_of d) said.2, light.1), fields_slim said.0 (numbers_of d) light.0 said.2)

-- ---- the numbers of a line

fields_short : (fs : List Field) (ds : List Datum) → AllZip Fits fs ds → highest_of fs < 10 ^ 22 → (length (flat_map numbers_of ds) ≤ widest_of fs) × AreSlim (flat_map numbers_of ds)
fields_short [] [] p lt = (omega arith, tt)
fields_short (f ∷ fs) (d ∷ ds) p lt =
    let one = field_short f d p.0 (omega arith) in
    let more = fields_short fs ds p.1 (omega arith) in
    (omega (arith, one.0, more.0, length-append (numbers_of d) (flat_map numbers_of ds)), short_append (numbers_of d) (flat_map numbers_of ds) one.1 more.1)
fields_short fs ds p lt = absurd p

-- the words of heads are short and plain
word_is_fit : (q : Question) → word_fits (head_word q) ≡ true
word_is_fit Q1 = refl
word_is_fit q = refl

words_are_fit : (word : List ℕ) (kind : HeadKind) → word_fits word ≡ true → words_fit (word ∷ words kind) ≡ true
words_are_fit word Yes e = rw e refl
words_are_fit word kind e = rw e refl

pub head_plain : (q : Question) (kind : HeadKind) (fs : List Field) (head : List Datum) → AllZip Fits fs head → AreLight fs → IsPlain (head_record q kind head)
head_plain q kind fs head f light = let short = fields_short fs head f light.1 in record { words = words_are_fit (head_word q) kind (word_is_fit q); few = omega (arith, short.0, light.0); numbers = short.1 }

-- a record below a head has a short word and such a field
abbrev pub IsLightRow : Row → Type 0
IsLightRow row = (words_fit (row.word ∷ []) ≡ true) × AreLight (row.field ∷ [])

pub rows_plain : (rows : List Row) (ds : List Datum) → AllByRecursion IsLightRow rows → AllZip FitsRow rows ds → AllPlain (row_records rows ds)
rows_plain [] [] light f = tt
rows_plain (row ∷ rows) (d ∷ ds) light f =
    let short = field_short row.field d f.0 (omega (arith, light.0.1.1)) in
    (record { words = light.0.0; few = omega (arith, short.0, light.0.1.0); numbers = short.1 }, rows_plain rows ds light.1 f.1)
rows_plain rows ds light f = absurd f
