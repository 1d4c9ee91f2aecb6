-- Numbers that a line says of the fields of the table are data that fit them, field by field.
use Rattle.crn_ctext.proofs.Prelude.{◌≡◌, ◌≤◌, ◌<◌, ◌+◌, ◌++◌, ◌∙◌, ℕ, zero, suc, Bool, true, false, List, [], ◌∷◌, length, map, refl, sym, ap, ap₂, subst, inl, inr, append_assoc, arith, ℤ, pos, negsuc, slice_index, AllByRecursion, AllZip, flat_map, range_with_len, ints, append-nil, length-map, length-map-range_with_len, get_or-map-range_with_len, IsIn, IsAscending, all_in, IsFrom, AreFrom, IsShelf, IsBasisOf, ways, ways_of, wide_numbers, if_may, Takes, AreNarrow, AreOf, AreBetween, AreRising, Small, Rising, small, just, Datum, Num, Int, Nums, Ints, Marks, Led, Basis, OneAnd, Walk, FreeSeveral, Shelves, Side, WideOf}
use Rattle.std.specs.Prelude.{◌⊎◌}
use Rattle.crn_cert.specs.Data.{Two, Field, One, CountAndPart, TwoOf, Several, Members, Free, Turn, Wide, ClassWide, Fits}
use Rattle.crn_ctext.specs.Records as records
use Rattle.crn_ctext.proofs.Forms.{numbers_of}

-- numbers within bounds are bits, or shelves
pub between_bits : (marks : List ℤ) → AreBetween (pos 0) (pos 1) marks → AllByRecursion (λ x. (x ≡ pos 0) ⊎ (x ≡ pos 1)) marks
between_bits [] b = tt
between_bits (pos zero ∷ zs) b = (inl refl, between_bits zs b.1)
between_bits (pos (suc zero) ∷ zs) b = (inr refl, between_bits zs b.1)
between_bits (pos (suc (suc n)) ∷ zs) b = absurd (omega (arith, ints, b.0.1))
between_bits (negsuc n ∷ zs) b = absurd (omega (arith, ints, b.0.0))

pub between_shelves : (xs : List ℤ) → AreBetween (negsuc 0) (pos 1) xs → AllByRecursion IsShelf xs
between_shelves [] b = tt
between_shelves (pos zero ∷ xs) b = (inr (inl refl), between_shelves xs b.1)
between_shelves (pos (suc zero) ∷ xs) b = (inl refl, between_shelves xs b.1)
between_shelves (pos (suc (suc n)) ∷ xs) b = absurd (omega (arith, ints, b.0.1))
between_shelves (negsuc zero ∷ xs) b = (inr (inr refl), between_shelves xs b.1)
between_shelves (negsuc (suc n) ∷ xs) b = absurd (omega (arith, ints, b.0.0))

-- the numbers are as the field of a line says, and free ones are numbers of a certificate
abbrev pub Holds : records.Field → List ℤ → Type 0
Holds field zs = Takes field zs × AreNarrow field zs

-- the numbers are those of a datum that fits
abbrev pub Has : Field → List ℤ → Type 0
Has f zs = (d : Datum) × Fits f d × (zs ≡ numbers_of d)

alone : (field : records.Field) (zs : List ℤ) → AreOf Holds (field ∷ []) zs → Holds field zs
alone field zs p = subst (Holds field) (sym (p.2 ∙ ap (λ (t : List ℤ). p.0 ++ t) p.4 ∙ append-nil p.0)) p.3

-- ---- naturals

pub naturals : (least greatest : ℕ) (zs : List ℤ) → AreBetween (pos least) (pos greatest) zs → (xs : List ℕ) × (zs ≡ map pos xs) × AllByRecursion (λ x. (least ≤ x) × (x ≤ greatest)) xs
naturals least greatest [] b = ([], refl, tt)
naturals least greatest (negsuc n ∷ zs) b = absurd (omega (arith, ints, b.0.0))
naturals least greatest (pos n ∷ zs) b =
    let more = naturals least greatest zs b.1 in
    (n ∷ more.0, ap (λ (t : List ℤ). pos n ∷ t) more.1, ((omega (arith, ints, b.0.0), omega (arith, ints, b.0.1)), more.2))

several : (count least greatest : ℕ) (zs : List ℤ) → Holds (small count least greatest) zs → (xs : List ℕ) × (zs ≡ map pos xs) × AreFrom count least greatest xs
several count least greatest zs h =
    let back = naturals least greatest zs h.0.1 in
    (back.0, back.1, record { long = sym (length-map back.0 pos) ∙ sym (ap length back.1) ∙ h.0.0; each = back.2 })

number : (least greatest : ℕ) (zs : List ℤ) → Holds (small 1 least greatest) zs → (n : ℕ) × (zs ≡ pos n ∷ []) × IsFrom least greatest n
number least greatest zs h = by (several 1 least greatest zs h)
  where
    by : ((xs : List ℕ) × (zs ≡ map pos xs) × AreFrom 1 least greatest xs) → (n : ℕ) × (zs ≡ pos n ∷ []) × IsFrom least greatest n
    by ([], e, f) = absurd (let l = f.long in omega (arith, l))
    by (n ∷ [], e, f) = (n, e, (let a = f.each in a.0))
    by (n ∷ m ∷ xs, e, f) = absurd (let l = f.long in omega (arith, l))

led : (count least greatest : ℕ) (zs : List ℤ) → Holds (small (1 + count) least greatest) zs → Has (OneAnd count least greatest) zs
led count least greatest zs h = by (several (1 + count) least greatest zs h)
  where
    by : ((xs : List ℕ) × (zs ≡ map pos xs) × AreFrom (1 + count) least greatest xs) → Has (OneAnd count least greatest) zs
    by ([], e, f) = absurd (let l = f.long in omega (arith, l))
    by (n ∷ xs, e, f) = let l = f.long in let a = f.each in (Led n xs, (a.0, record { long = omega (arith, l); each = a.1 }), e)

within : (greatest : ℕ) (ns : List ℕ) → AreBetween (pos 1) (pos greatest) (map pos ns) → AllByRecursion (λ x. (1 ≤ x) × (x ≤ greatest)) ns
within greatest [] b = tt
within greatest (n ∷ ns) b = ((omega (arith, ints, b.0.0), omega (arith, ints, b.0.1)), within greatest ns b.1)

pub rising : (count greatest : ℕ) (zs : List ℤ) → (length zs ≡ count) × AreRising greatest zs → (ns : List ℕ) × (zs ≡ map pos ns) × AreFrom count 1 greatest ns × IsAscending ns
rising count greatest zs t =
    let r = t.1 in
    (r.0, r.1, record { long = sym (length-map r.0 pos) ∙ sym (ap length r.1) ∙ t.0; each = within greatest r.0 (subst (AreBetween (pos 1) (pos greatest)) r.1 r.3) }, r.2)

-- ---- a vector

wide : (s columns rows : ℕ) (zs : List ℤ) → AreOf Holds (wide_numbers s columns rows) zs → (system class index : ℕ) × (basis : List ℕ) × (zs ≡ map pos (system ∷ class ∷ index ∷ basis)) × (system ≡ s) × (class ≡ 0) × IsBasisOf columns rows index basis
wide s columns rows zs p =
    let a = number s s p.0 p.3 in
    let q = p.4 in
    let b = number 0 0 q.0 q.3 in
    let r = q.4 in
    let i = number 1 (columns + rows) r.0 r.3 in
    let t = rising columns (columns + rows) r.1 (alone (Rising columns (columns + rows)) r.1 r.4).0 in
    (a.0, b.0, i.0, t.0, p.2 ∙ ap₂ (λ (x y : List ℤ). x ++ y) a.1 (q.2 ∙ ap₂ (λ (x y : List ℤ). x ++ y) b.1 (r.2 ∙ ap₂ (λ (x y : List ℤ). x ++ y) i.1 t.1)), omega (arith, a.2.0, a.2.1), omega (arith, b.2.0, b.2.1), record { coordinate = i.2; members = t.2; ascending = t.3 })

class_wide : (s columns classes : ℕ) (rows : ℕ → ℕ) (zs : List ℤ) → AreOf Holds (just s ∷ records.ClassWide columns (map rows (range_with_len 1 classes)) ∷ []) zs → Has (ClassWide s columns classes rows) zs
class_wide s columns classes rows zs p =
    let sizes = map rows (range_with_len 1 classes) in
    let a = number s s p.0 p.3 in
    let c = (alone (records.ClassWide columns sizes) p.1 p.4).0 in
    let k = c.0 in
    let lt : k < classes = subst (λ (n : ℕ). k < n) (length-map-range_with_len rows 1 classes) c.4 in
    let size : slice_index sizes k ≡ rows (suc k) = get_or-map-range_with_len rows 1 classes k (suc k) 0 lt (omega arith) in
    let t = rising columns (columns + rows (suc k)) c.2 (c.7, subst (λ (n : ℕ). AreRising (columns + n) c.2) size c.8) in
    let most : c.1 ≤ columns + rows (suc k) = subst (λ (n : ℕ). c.1 ≤ columns + n) size c.6 in
    (Basis a.0 (suc k) c.1 t.0, (omega (arith, a.2.0, a.2.1), (omega arith, omega (arith, lt)), record { coordinate = (c.5, most); members = t.2; ascending = t.3 }), p.2 ∙ ap₂ (λ (x y : List ℤ). x ++ y) a.1 (c.3 ∙ ap (λ (y : List ℤ). pos (suc k) ∷ pos c.1 ∷ y) t.1))

-- ---- each field, in each of its ways

single : (f : Field) (way other : List records.Field) (zs : List ℤ) → ((zs : List ℤ) → AreOf Holds way zs → Has f zs) → IsIn other (way ∷ []) → AreOf Holds other zs → Has f zs
single f way other zs k (inl e) p = k zs (subst (λ (w : List records.Field). AreOf Holds w zs) e p)
single f way other zs k (inr none) p = absurd none

one_free : (zs : List ℤ) → Holds (records.Free 1) zs → Has Free zs
one_free (z ∷ []) h = (Int z, h.1.0, refl)
one_free zs h = absurd (let l = h.0 in omega (arith, l))

pub field_typed : (f : Field) (way : List records.Field) (zs : List ℤ) → IsIn way (ways f) → AreOf Holds way zs → Has f zs
field_typed (One least greatest) way zs i p = single (One least greatest) (small 1 least greatest ∷ []) way zs (λ zs p. let n = number least greatest zs (alone (small 1 least greatest) zs p) in (Num n.0, n.2, n.1)) i p
field_typed (CountAndPart greatest) way zs i p = single (CountAndPart greatest) (records.CountAndPart greatest ∷ []) way zs (λ zs p. let t = (alone (records.CountAndPart greatest) zs p).0 in (Two t.0 t.1, ((omega (arith, t.3, t.4), t.5), (t.3, t.4)), t.2)) i p
field_typed (TwoOf greatest) way zs i p = single (TwoOf greatest) (records.TwoOf greatest ∷ []) way zs (λ zs p.
    let t = (alone (records.TwoOf greatest) zs p).0 in
    let b = subst (AreBetween (pos 1) (pos greatest)) t.2 t.4 in
    (Two t.0 t.1, ((omega (arith, ints, b.0.0), omega (arith, ints, b.0.1)), (omega (arith, ints, b.1.0.0), omega (arith, ints, b.1.0.1)), t.3), t.2)) i p
field_typed (Several count least greatest) way zs i p = single (Several count least greatest) (small count least greatest ∷ []) way zs (λ zs p. let t = several count least greatest zs (alone (small count least greatest) zs p) in (Nums t.0, t.2, t.1)) i p
field_typed (OneAnd count least greatest) way zs i p = single (OneAnd count least greatest) (small (1 + count) least greatest ∷ []) way zs (λ zs p. led count least greatest zs (alone (small (1 + count) least greatest) zs p)) i p
field_typed (Walk greatest) way zs i p = single (Walk greatest) (records.Several 2 greatest (pos 1) (pos greatest) ∷ []) way zs (λ zs p.
    let t = (alone (records.Several 2 greatest (pos 1) (pos greatest)) zs p).0 in
    let b = naturals 1 greatest zs t.2 in
    let long : length b.0 ≡ length zs = sym (length-map b.0 pos) ∙ sym (ap length b.1) in
    (Nums b.0, record { some = omega (arith, long, t.0); few = omega (arith, long, t.1); each = b.2 }, b.1)) i p
field_typed (Members count members) way zs i p = single (Members count members) (records.Members count members ∷ []) way zs (λ zs p.
    let t = (alone (records.Members count members) zs p).0 in
    (Nums t.0, (t.2, t.3, (λ r j. all_in (λ (n : ℕ). IsIn n members) t.0 r t.4 j)), t.1)) i p
field_typed Free way zs i p = single Free (records.Free 1 ∷ []) way zs (λ zs p. one_free zs (alone (records.Free 1) zs p)) i p
field_typed (FreeSeveral count) way zs i p = single (FreeSeveral count) (records.Free count ∷ []) way zs (λ zs p. let h = alone (records.Free count) zs p in (Ints zs, record { long = h.0; each = h.1 }, refl)) i p
field_typed Turn way zs i p = single Turn (records.Turn ∷ []) way zs (λ zs p. elim (alone records.Turn zs p).0 [ inl e ↦ (Int (pos 1), inl refl, e) | inr e ↦ (Int (negsuc 0), inr refl, e) ]) i p
field_typed (Shelves count) way zs i p = single (Shelves count) (Small count (negsuc 0) (pos 1) ∷ []) way zs (λ zs p. let h = (alone (Small count (negsuc 0) (pos 1)) zs p).0 in (Ints zs, record { long = h.0; each = between_shelves zs h.1 }, refl)) i p
field_typed (Side reaction count) way zs i p = single (Side reaction count) (just reaction ∷ small count 0 1 ∷ []) way zs (λ zs p.
    let n = number reaction reaction p.0 p.3 in
    let h = (alone (small count 0 1) p.1 p.4).0 in
    (Marks n.0 p.1, (omega (arith, n.2.0, n.2.1), record { long = h.0; each = between_bits p.1 h.1 }), p.2 ∙ ap (λ (x : List ℤ). x ++ p.1) n.1)) i p
field_typed (Wide s columns rows) way zs i p = single (Wide s columns rows) (wide_numbers s columns rows) way zs (λ zs p. let w = wide s columns rows zs p in (Basis w.0 w.1 w.2 w.3, (w.5, w.6, w.7), w.4)) i p
field_typed (WideOf s columns rows may t more_columns more_rows) way zs (inl e) p =
    let w = wide s columns rows zs (subst (λ (w : List records.Field). AreOf Holds w zs) e p) in
    (Basis w.0 w.1 w.2 w.3, inl (w.5, w.6, w.7), w.4)
field_typed (WideOf s columns rows may t more_columns more_rows) way zs (inr i) p = second may i
  where
    second : (b : Bool) → IsIn way (if_may b (wide_numbers t more_columns more_rows)) → Has (WideOf s columns rows b t more_columns more_rows) zs
    second false none = absurd none
    second true (inl e) =
        let w = wide t more_columns more_rows zs (subst (λ (w : List records.Field). AreOf Holds w zs) e p) in
        (Basis w.0 w.1 w.2 w.3, inr (w.5, w.6, refl, w.7), w.4)
    second true (inr none) = absurd none
field_typed (ClassWide s columns classes rows) way zs i p = single (ClassWide s columns classes rows) (just s ∷ records.ClassWide columns (map rows (range_with_len 1 classes)) ∷ []) way zs (class_wide s columns classes rows) i p

-- ---- fields one after another

-- numbers of fields one after another are those of the first and those of the others
of_both : (P : records.Field → List ℤ → Type 0) (xs ys : List records.Field) (zs : List ℤ) → AreOf P (xs ++ ys) zs → (a : List ℤ) × (b : List ℤ) × (zs ≡ a ++ b) × AreOf P xs a × AreOf P ys b
of_both P [] ys zs p = ([], zs, refl, refl, p)
of_both P (x ∷ xs) ys zs p =
    let more = of_both P xs ys p.1 p.4 in
    (p.0 ++ more.0, more.1, p.2 ∙ ap (λ (t : List ℤ). p.0 ++ t) more.2 ∙ sym (append_assoc p.0 more.0 more.1), (p.0, more.0, refl, p.3, more.3), more.4)

-- a member of the joined lists is of one list, joined to one of the others
abbrev IsJoined : List records.Field → List (List records.Field) → List (List records.Field) → Type 0
IsJoined way firsts others = (a : List records.Field) × (b : List records.Field) × IsIn a firsts × IsIn b others × (a ++ b ≡ way)

in_map : (a way : List records.Field) (others : List (List records.Field)) → IsIn way (map (λ more. a ++ more) others) → (b : List records.Field) × IsIn b others × (a ++ b ≡ way)
in_map a way [] i = absurd i
in_map a way (b ∷ bs) (inl e) = (b, inl refl, sym e)
in_map a way (b ∷ bs) (inr i) = let m = in_map a way bs i in (m.0, inr m.1, m.2)

in_both : (way : List records.Field) (xs ys : List (List records.Field)) (P : Type 0) → (IsIn way xs → P) → (IsIn way ys → P) → IsIn way (xs ++ ys) → P
in_both way [] ys P f g i = g i
in_both way (x ∷ xs) ys P f g (inl e) = f (inl e)
in_both way (x ∷ xs) ys P f g (inr i) = in_both way xs ys P (λ j. f (inr j)) g i

joined : (way : List records.Field) (firsts others : List (List records.Field)) → IsIn way (flat_map (λ w. map (λ more. w ++ more) others) firsts) → IsJoined way firsts others
joined way [] others i = absurd i
joined way (a ∷ firsts) others i = in_both way (map (λ more. a ++ more) others) (flat_map (λ w. map (λ more. w ++ more) others) firsts) (IsJoined way (a ∷ firsts) others)
    (λ j. let m = in_map a way others j in (a, m.0, inl refl, m.1, m.2))
    (λ j. let m = joined way firsts others j in (m.0, m.1, inr m.2, m.3, m.4)) i

pub fields_typed : (fs : List Field) (way : List records.Field) (zs : List ℤ) → IsIn way (ways_of fs) → AreOf Holds way zs → (ds : List Datum) × AllZip Fits fs ds × (zs ≡ flat_map numbers_of ds)
fields_typed [] way zs (inl e) p = ([], tt, subst (λ (w : List records.Field). AreOf Holds w zs) e p)
fields_typed [] way zs (inr none) p = absurd none
fields_typed (f ∷ fs) way zs i p =
    let j = joined way (ways f) (ways_of fs) i in
    let both = of_both Holds j.0 j.1 zs (subst (λ (w : List records.Field). AreOf Holds w zs) (sym j.4) p) in
    let one = field_typed f j.0 both.0 j.2 both.3 in
    let more = fields_typed fs j.1 both.1 j.3 both.4 in
    (one.0 ∷ more.0, (one.1, more.1), both.2 ∙ ap₂ (λ (x y : List ℤ). x ++ y) one.2 more.2)
