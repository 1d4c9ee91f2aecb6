-- Records that fit the forms of a question are those of a block of the table that fits.
use Rattle.crn_ctext.proofs.Prelude.{◌≡◌, ◌++◌, ℕ, suc, List, [], ◌∷◌, map, refl, sym, ap₂, subst, inl, inr, Option, Some, None, AllZip, flat_map, IsIn, Question, words, kinds, ways, ways_of, forms_at, forms_from, heads, head_word, Record, Form, below, IsOneOf, shapes_of, HeadKind, Datum, Row, Sizes, fields, FitsFields, FitsHead, FitsRow}
use Rattle.crn_cert.specs.Data.{Field, One}
use Rattle.crn_ctext.specs.Records as records
use Rattle.crn_ctext.proofs.Forms.{numbers_of, row_records, way_of, row_form}
use Rattle.crn_cert.specs.Table as table
use Rattle.crn_ctext.proofs.BlockLaws.{RecordsAreBlocks}
use Rattle.crn_ctext.proofs.FieldsTyped.{field_typed, fields_typed}
use Rattle.crn_ctext.proofs.RowsDerived.{rows_as_before}
use Rattle.crn_ctext.proofs.RanksLinked.{record_is}

-- ---- a head

-- the record is that of a head that fits
abbrev IsHead : Question → Sizes → Record → Type 0
IsHead q z r = (kind : HeadKind) × (h : List Datum) × FitsHead q z kind h × (r ≡ record { words = head_word q ∷ words kind; numbers = flat_map numbers_of h })

by_way : (q : Question) (z : Sizes) (kind : HeadKind) (place : ℕ) (fs : List Field) (left : List (List records.Field)) (form : Form) (r : Record) → fields q z kind ≡ Some fs → ((way : List records.Field) → IsIn way left → IsIn way (ways_of fs))
    → IsIn form (map (λ way. record { place = place; words = head_word q ∷ words kind; fields = way }) left) → records.Fits form r → IsHead q z r
by_way q z kind place fs [] form r e all i f = absurd i
by_way q z kind place fs (way ∷ left) form r e all (inl s) f =
    let fits : records.Fits (record { place = place; words = head_word q ∷ words kind; fields = way }) r = subst (λ (x : Form). records.Fits x r) s f in
    let t = fields_typed fs way r.numbers (all way (inl refl)) fits.1 in
    (kind, t.0, subst (λ (o : Option (List Field)). FitsFields o t.0) (sym e) t.1, record_is r (head_word q ∷ words kind) (flat_map numbers_of t.0) fits.0 t.2)
by_way q z kind place fs (way ∷ left) form r e all (inr i) f = by_way q z kind place fs left form r e (λ w j. all w (inr j)) i f

at_kind : (q : Question) (z : Sizes) (kind : HeadKind) (place : ℕ) (o : Option (List Field)) (form : Form) (r : Record) → fields q z kind ≡ o → IsIn form (forms_at q kind place o) → records.Fits form r → IsHead q z r
at_kind q z kind place None form r e i f = absurd i
at_kind q z kind place (Some fs) form r e i f = by_way q z kind place fs (ways_of fs) form r e (λ way j. j) i f

in_both : (form : Form) (xs ys : List Form) (P : Type 0) → (IsIn form xs → P) → (IsIn form ys → P) → IsIn form (xs ++ ys) → P
in_both form [] ys P f g i = g i
in_both form (x ∷ xs) ys P f g (inl e) = f (inl e)
in_both form (x ∷ xs) ys P f g (inr i) = in_both form xs ys P (λ j. f (inr j)) g i

from_kinds : (q : Question) (z : Sizes) (place : ℕ) (ks : List HeadKind) (form : Form) (r : Record) → IsIn form (forms_from q z place ks) → records.Fits form r → IsHead q z r
from_kinds q z place [] form r i f = absurd i
from_kinds q z place (kind ∷ ks) form r i f = in_both form (forms_at q kind place (fields q z kind)) (forms_from q z (suc place) ks) (IsHead q z r) (λ j. at_kind q z kind place (fields q z kind) form r refl j f) (λ j. from_kinds q z (suc place) ks form r j f) i

pub head_typed : (q : Question) (z : Sizes) (r : Record) → IsOneOf (heads q z) r → IsHead q z r
head_typed q z r (form, i, f) = from_kinds q z 1 (kinds q) form r i f

-- ---- rows

has_way : (f : Field) → IsIn (way_of (ways f)) (ways f)
has_way (One least greatest) = inl refl
has_way f = inl refl

pub rows_typed : (due : List Row) (rs : List Record) → AllZip records.Fits (map row_form due) rs → (ds : List Datum) × AllZip FitsRow due ds × (rs ≡ row_records due ds)
rows_typed [] [] f = ([], tt, refl)
rows_typed (row ∷ due) (r ∷ rs) f =
    let one = field_typed row.field (way_of (ways row.field)) r.numbers (has_way row.field) f.0.1 in
    let more = rows_typed due rs f.1 in
    (one.0 ∷ more.0, (one.1, more.1), ap₂ (λ (x : Record) (xs : List Record). x ∷ xs) (record_is r (row.word ∷ []) (numbers_of one.0) f.0.0 one.2) more.2)
rows_typed due rs f = absurd f

-- ---- a block

pub records_are_blocks : RecordsAreBlocks
records_are_blocks known q h rs one f =
    let z = table.sizes_of known.net known.earlier in
    let head = head_typed q z h one in
    let due = table.rows known.net known.earlier q head.0 head.1 in
    let below_head = subst (λ (h : Record). AllZip records.Fits (below q (shapes_of known) h) rs) head.3 f in
    let typed = rows_typed due rs (subst (λ (fs : List Form). AllZip records.Fits fs rs) (rows_as_before known q head.0 head.1 head.2) below_head) in
    record { kind = head.0; head = head.1; rows = typed.0; head_fits = head.2; rows_fit = typed.1; head_is = head.3; rows_are = typed.2 }
