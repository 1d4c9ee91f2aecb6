-- Data that fit fields of the table are said as the fields of lines have it, field by field, and so is a block.
use Rattle.crn_ctext.proofs.Prelude.{◌≡◌, ◌≤◌, ◌+◌, ◌++◌, ◌∙◌, ℕ, zero, suc, Bool, List, [], ◌∷◌, map, refl, sym, ap, subst, inl, inr, append_assoc, arith, ℤ, ◌≤ℤ◌, pos, negsuc, slice_index, Option, Some, None, AllByRecursion, AllZip, flat_map, range_with_len, ints, append-nil, length-map, length-map-range_with_len, get_or-map-range_with_len, IsIn, all_from, in_left, in_right, IsFrom, AreFrom, IsBasisOf, IsShelf, Question, Q1, words, kinds, ways, ways_of, wide_numbers, if_may, forms_at, forms_from, heads, head_word, Form, AreOf, AreBetween, Small, Rising, small, just, IsOneOf, HeadKind, Classes, Datum, Num, Int, Nums, Ints, Marks, Led, Basis, OneAnd, Walk, FreeSeveral, Shelves, Side, WideOf, Sizes, fields, FitsFields, FitsHead}
use Rattle.std.specs.Prelude.{◌⊎◌}
use Rattle.crn_cert.specs.Data.{Two, Field, One, CountAndPart, TwoOf, Several, Members, Free, Turn, Wide, ClassWide, Fits}
use Rattle.crn_ctext.specs.Records as records
use Rattle.crn_ctext.proofs.Forms.{numbers_of}
use Rattle.crn_ctext.proofs.FieldsTyped.{Holds}

-- some way of the field has these numbers
abbrev pub IsSaidBy : List (List records.Field) → List ℤ → Type 0
IsSaidBy left zs = (way : List records.Field) × IsIn way left × AreOf Holds way zs

alone : (field : records.Field) (zs : List ℤ) → Holds field zs → AreOf Holds (field ∷ []) zs
alone field zs h = (zs, [], sym (append-nil zs), h, refl)

first_way : (way : List records.Field) (others : List (List records.Field)) (zs : List ℤ) → AreOf Holds way zs → IsSaidBy (way ∷ others) zs
first_way way others zs p = (way, inl refl, p)

-- ---- naturals

pub between : (least greatest : ℕ) (xs : List ℕ) → AllByRecursion (λ x. (least ≤ x) × (x ≤ greatest)) xs → AreBetween (pos least) (pos greatest) (map pos xs)
between least greatest [] p = tt
between least greatest (x ∷ xs) p = ((omega (arith, ints, p.0.0), omega (arith, ints, p.0.1)), between least greatest xs p.1)

several : (count least greatest : ℕ) (xs : List ℕ) → AreFrom count least greatest xs → Holds (small count least greatest) (map pos xs)
several count least greatest xs f =
    let long = f.long in
    let each = f.each in
    ((length-map xs pos ∙ long, between least greatest xs each), tt)

number : (least greatest n : ℕ) → IsFrom least greatest n → Holds (small 1 least greatest) (pos n ∷ [])
number least greatest n f = ((refl, ((omega (arith, ints, f.0), omega (arith, ints, f.1)), tt)), tt)

-- a number, and then others
then : (field : records.Field) (others : List records.Field) (xs ys : List ℤ) → Holds field xs → AreOf Holds others ys → AreOf Holds (field ∷ others) (xs ++ ys)
then field others xs ys h p = (xs, ys, refl, h, p)

wide : (s columns rows index : ℕ) (basis : List ℕ) → IsBasisOf columns rows index basis → AreOf Holds (wide_numbers s columns rows) (map pos (s ∷ 0 ∷ index ∷ basis))
wide s columns rows index basis b =
    let members = b.members in
    let long = members.long in
    let each = members.each in
    let up = b.ascending in
    let coordinate = b.coordinate in
    then (just s) (just 0 ∷ small 1 1 (columns + rows) ∷ Rising columns (columns + rows) ∷ []) (pos s ∷ []) (map pos (0 ∷ index ∷ basis)) (number s s s (omega arith, omega arith))
    (then (just 0) (small 1 1 (columns + rows) ∷ Rising columns (columns + rows) ∷ []) (pos 0 ∷ []) (map pos (index ∷ basis)) (number 0 0 0 (omega arith, omega arith))
    (then (small 1 1 (columns + rows)) (Rising columns (columns + rows) ∷ []) (pos index ∷ []) (map pos basis) (number 1 (columns + rows) index coordinate)
    (alone (Rising columns (columns + rows)) (map pos basis) ((length-map basis pos ∙ long, (basis, refl, up, between 1 (columns + rows) basis each)), tt))))

pub bits : (zs : List ℤ) → AllByRecursion (λ x. (x ≡ pos 0) ⊎ (x ≡ pos 1)) zs → AreBetween (pos 0) (pos 1) zs
bits [] a = tt
bits (z ∷ zs) a = (elim a.0 [ inl e ↦ subst (λ (x : ℤ). (pos 0 ≤ℤ x) × (x ≤ℤ pos 1)) (sym e) (omega (arith, ints), omega (arith, ints)) | inr e ↦ subst (λ (x : ℤ). (pos 0 ≤ℤ x) × (x ≤ℤ pos 1)) (sym e) (omega (arith, ints), omega (arith, ints)) ], bits zs a.1)

shelves : (zs : List ℤ) → AllByRecursion IsShelf zs → AreBetween (negsuc 0) (pos 1) zs
shelves [] a = tt
shelves (z ∷ zs) a = (by a.0, shelves zs a.1)
  where
    by : IsShelf z → (negsuc 0 ≤ℤ z) × (z ≤ℤ pos 1)
    by (inl e) = subst (λ (x : ℤ). (negsuc 0 ≤ℤ x) × (x ≤ℤ pos 1)) (sym e) (omega (arith, ints), omega (arith, ints))
    by (inr (inl e)) = subst (λ (x : ℤ). (negsuc 0 ≤ℤ x) × (x ≤ℤ pos 1)) (sym e) (omega (arith, ints), omega (arith, ints))
    by (inr (inr e)) = subst (λ (x : ℤ). (negsuc 0 ≤ℤ x) × (x ≤ℤ pos 1)) (sym e) (omega (arith, ints), omega (arith, ints))

-- ---- each field

by_wide : (left : List (List records.Field)) (s system class : ℕ) (zs : List ℕ) → system ≡ s → class ≡ 0 → IsSaidBy left (map pos (s ∷ 0 ∷ zs)) → IsSaidBy left (map pos (system ∷ class ∷ zs))
by_wide left s system class zs a b h = subst (λ (k : ℕ). IsSaidBy left (map pos (k ∷ class ∷ zs))) (sym a) (subst (λ (k : ℕ). IsSaidBy left (map pos (s ∷ k ∷ zs))) (sym b) h)

pub field_said : (f : Field) (d : Datum) → Fits f d → IsSaidBy (ways f) (numbers_of d)
field_said (One least greatest) (Num n) f = first_way _ [] _ (alone (small 1 least greatest) (pos n ∷ []) (number least greatest n f))
field_said (CountAndPart greatest) (Two n m) f = first_way _ [] _ (alone (records.CountAndPart greatest) (pos n ∷ pos m ∷ []) ((n, m, refl, f.1.0, f.1.1, f.0.1), tt))
field_said (TwoOf greatest) (Two n m) f = first_way _ [] _ (alone (records.TwoOf greatest) (pos n ∷ pos m ∷ []) ((n, m, refl, f.2, ((omega (arith, ints, f.0.0), omega (arith, ints, f.0.1)), ((omega (arith, ints, f.1.0), omega (arith, ints, f.1.1)), tt))), tt))
field_said (Several count least greatest) (Nums xs) f = first_way _ [] _ (alone (small count least greatest) (map pos xs) (several count least greatest xs f))
field_said (OneAnd count least greatest) (Led n xs) f =
    let long = f.1.long in
    let each = f.1.each in
    first_way _ [] _ (alone (small (1 + count) least greatest) (map pos (n ∷ xs)) (several (1 + count) least greatest (n ∷ xs) (record { long = omega (arith, long); each = (f.0, each) })))
field_said (Walk greatest) (Nums xs) f =
    let some = f.some in
    let few = f.few in
    let each = f.each in
    first_way _ [] _ (alone (records.Several 2 greatest (pos 1) (pos greatest)) (map pos xs) ((let l = length-map xs pos in (omega (arith, l, some), omega (arith, l, few), between 1 greatest xs each)), tt))
field_said (Members count members) (Nums xs) f = first_way _ [] _ (alone (records.Members count members) (map pos xs) ((xs, refl, f.0, f.1, all_from (λ r. IsIn r members) xs f.2), tt))
field_said Free (Int z) f = first_way _ [] _ (alone (records.Free 1) (z ∷ []) (refl, (f, tt)))
field_said (FreeSeveral count) (Ints zs) f = let long = f.long in let each = f.each in first_way _ [] _ (alone (records.Free count) zs (long, each))
field_said Turn (Int z) f = first_way _ [] _ (alone records.Turn (z ∷ []) ((elim f [ inl e ↦ inl (ap (λ (x : ℤ). x ∷ []) e) | inr e ↦ inr (ap (λ (x : ℤ). x ∷ []) e) ]), tt))
field_said (Shelves count) (Ints zs) f = let long = f.long in let each = f.each in first_way _ [] _ (alone (Small count (negsuc 0) (pos 1)) zs ((long, shelves zs each), tt))
field_said (Side reaction count) (Marks n zs) f =
    let long = f.1.long in
    let each = f.1.each in
    first_way _ [] _ (then (just reaction) (small count 0 1 ∷ []) (pos n ∷ []) zs (number reaction reaction n (omega (arith, f.0), omega (arith, f.0))) (alone (small count 0 1) zs ((long, bits zs each), tt)))
field_said (Wide s columns rows) (Basis system class index basis) f = by_wide (ways (Wide s columns rows)) s system class (index ∷ basis) f.0 f.1 (first_way (wide_numbers s columns rows) [] _ (wide s columns rows index basis f.2))
field_said (WideOf s columns rows may t more_columns more_rows) (Basis system class index basis) (inl f) = by_wide (ways (WideOf s columns rows may t more_columns more_rows)) s system class (index ∷ basis) f.0 f.1 (first_way (wide_numbers s columns rows) (if_may may (wide_numbers t more_columns more_rows)) _ (wide s columns rows index basis f.2))
field_said (WideOf s columns rows may t more_columns more_rows) (Basis system class index basis) (inr f) =
    by_wide (ways (WideOf s columns rows may t more_columns more_rows)) t system class (index ∷ basis) f.0 f.1
    (wide_numbers t more_columns more_rows, inr (subst (λ (b : Bool). IsIn (wide_numbers t more_columns more_rows) (if_may b (wide_numbers t more_columns more_rows))) (sym f.2) (inl refl)), wide t more_columns more_rows index basis f.3)
field_said (ClassWide s columns classes rows) (Basis system class index basis) f = by class f.1 f.2
  where
    sizes : List ℕ
    sizes = map rows (range_with_len 1 classes)

    by : (class : ℕ) → IsFrom 1 classes class → IsBasisOf columns (rows class) index basis → IsSaidBy (ways (ClassWide s columns classes rows)) (map pos (system ∷ class ∷ index ∷ basis))
    by zero from b = absurd (omega (arith, from.0))
    by (suc k) from b =
        let members = b.members in
        let long = members.long in
        let each = members.each in
        let up = b.ascending in
        let coordinate = b.coordinate in
        let size : slice_index (map rows (range_with_len 1 classes)) k ≡ rows (suc k) = get_or-map-range_with_len rows 1 classes k (suc k) 0 (omega (arith, from.1)) (omega arith) in
        let count = length-map-range_with_len rows 1 classes in
        first_way (just s ∷ records.ClassWide columns (map rows (range_with_len 1 classes)) ∷ []) [] (map pos (system ∷ suc k ∷ index ∷ basis)) (then (just s) (records.ClassWide columns (map rows (range_with_len 1 classes)) ∷ []) (pos system ∷ []) (map pos (suc k ∷ index ∷ basis)) (number s s system (omega (arith, f.0), omega (arith, f.0)))
        (alone (records.ClassWide columns (map rows (range_with_len 1 classes))) (map pos (suc k ∷ index ∷ basis))
        ((k, index, map pos basis, refl, omega (arith, count, from.1), coordinate.0, omega (arith, size, coordinate.1), length-map basis pos ∙ long, subst (λ (n : ℕ). records.AreRising (columns + n) (map pos basis)) (sym size) (basis, refl, up, between 1 (columns + rows (suc k)) basis each)), tt)))
field_said field datum f = absurd f

-- ---- fields one after another

both_of : (xs ys : List records.Field) (us vs : List ℤ) → AreOf Holds xs us → AreOf Holds ys vs → AreOf Holds (xs ++ ys) (us ++ vs)
both_of [] ys us vs p q = subst (λ (t : List ℤ). AreOf Holds ys (t ++ vs)) (sym p) q
both_of (x ∷ xs) ys us vs p q = (p.0, p.1 ++ vs, ap (λ (t : List ℤ). t ++ vs) p.2 ∙ append_assoc p.0 p.1 vs, p.3, both_of xs ys p.1 vs p.4 q)

in_mapped : (a b : List records.Field) (others : List (List records.Field)) → IsIn b others → IsIn (a ++ b) (map (λ more. a ++ more) others)
in_mapped a b [] i = absurd i
in_mapped a b (c ∷ others) (inl e) = inl (ap (λ (t : List records.Field). a ++ t) e)
in_mapped a b (c ∷ others) (inr i) = inr (in_mapped a b others i)

in_joined : (a b : List records.Field) (firsts others : List (List records.Field)) → IsIn a firsts → IsIn b others → IsIn (a ++ b) (flat_map (λ w. map (λ more. w ++ more) others) firsts)
in_joined a b [] others i j = absurd i
in_joined a b (c ∷ firsts) others (inl e) j = in_left (a ++ b) (map (λ more. c ++ more) others) (flat_map (λ w. map (λ more. w ++ more) others) firsts) (subst (λ (w : List records.Field). IsIn (a ++ b) (map (λ more. w ++ more) others)) e (in_mapped a b others j))
in_joined a b (c ∷ firsts) others (inr i) j = in_right (a ++ b) (map (λ more. c ++ more) others) (flat_map (λ w. map (λ more. w ++ more) others) firsts) (in_joined a b firsts others i j)

pub fields_said : (fs : List Field) (ds : List Datum) → AllZip Fits fs ds → IsSaidBy (ways_of fs) (flat_map numbers_of ds)
fields_said [] [] f = ([], inl refl, refl)
fields_said (field ∷ fs) (d ∷ ds) f =
    let one = field_said field d f.0 in
    let more = fields_said fs ds f.1 in
    (one.0 ++ more.0, in_joined one.0 more.0 (ways field) (ways_of fs) one.1 more.1, both_of one.0 more.0 (numbers_of d) (flat_map numbers_of ds) one.2 more.2)
fields_said fs ds f = absurd f

-- ---- a head

abbrev IsKind : Option (List Field) → Type 0
IsKind None = ⊥
IsKind (Some fs) = Unit {0}

kind_in : (q : Question) (z : Sizes) (kind : HeadKind) → IsKind (fields q z kind) → IsIn kind (kinds q)
kind_in Q1 z Classes f = inl refl
kind_in q z Classes f = absurd f
kind_in q z kind f = search (inl, inr, refl, f) depth 9

in_forms : (q : Question) (z : Sizes) (kind : HeadKind) (h : List Datum) (fs : List Field) (way : List records.Field) (place : ℕ) (ks : List HeadKind) → fields q z kind ≡ Some fs → IsIn way (ways_of fs) → IsIn kind ks
    → (form : Form) × IsIn form (forms_from q z place ks) × (form.words ≡ head_word q ∷ words kind) × (form.fields ≡ way)
in_forms q z kind h fs way place [] e i j = absurd j
in_forms q z kind h fs way place (other ∷ ks) e i (inl s) =
    let at : IsIn (form place) (forms_at q kind place (fields q z kind)) = subst (λ (o : Option (List Field)). IsIn (form place) (forms_at q kind place o)) (sym e) (mapped (ways_of fs) i) in
    (form place, in_left (form place) (forms_at q other place (fields q z other)) (forms_from q z (suc place) ks) (subst (λ (k : HeadKind). IsIn (form place) (forms_at q k place (fields q z k))) s at), refl, refl)
  where
    form : ℕ → Form
    form place = record { place = place; words = head_word q ∷ words kind; fields = way }

    mapped : (left : List (List records.Field)) → IsIn way left → IsIn (form place) (map (λ way. record { place = place; words = head_word q ∷ words kind; fields = way }) left)
    mapped [] i = absurd i
    mapped (w ∷ left) (inl e) = inl (ap (λ (x : List records.Field). record { place = place; words = head_word q ∷ words kind; fields = x }) e)
    mapped (w ∷ left) (inr i) = inr (mapped left i)
in_forms q z kind h fs way place (other ∷ ks) e i (inr j) =
    let more = in_forms q z kind h fs way (suc place) ks e i j in
    (more.0, in_right more.0 (forms_at q other place (fields q z other)) (forms_from q z (suc place) ks) more.1, more.2, more.3)

pub head_said : (q : Question) (z : Sizes) (kind : HeadKind) (h : List Datum) → FitsHead q z kind h → IsOneOf (heads q z) (record { words = head_word q ∷ words kind; numbers = flat_map numbers_of h })
head_said q z kind h f = by (fields q z kind) refl f
  where
    by : (o : Option (List Field)) → fields q z kind ≡ o → FitsFields o h → IsOneOf (heads q z) (record { words = head_word q ∷ words kind; numbers = flat_map numbers_of h })
    by None e f = absurd f
    by (Some fs) e f =
        let w = fields_said fs h f in
        let at = in_forms q z kind h fs w.0 1 (kinds q) e w.1 (kind_in q z kind (subst IsKind (sym e) tt)) in
        (at.0, at.1, (sym at.2, subst (λ (x : List records.Field). AreOf Holds x (flat_map numbers_of h)) (sym at.3) w.2))
