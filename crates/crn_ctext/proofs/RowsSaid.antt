-- Records of a block that fits are those of the forms of its question.
use Rattle.crn_ctext.proofs.Prelude.{◌≡◌, ◌-◌, ◌++◌, ℕ, suc, List, [], ◌∷◌, length, map, refl, sym, subst, inl, inr, AllByRecursion, AllZip, range_with_len, IsIn, class_places, pair_places, Question, Q5, Q6, Q11, Q12, ways, heads, Record, Form, AreOf, below, IsOneOf, Known, shapes_of, HeadKind, Classes, Rank, Deficiency, Yes, YesVec, OnlyZero, Datum, Row, Sizes, rank_rows, rank_in, class_rows, rows_by, others, FitsRow, all_append}
use Rattle.std.proofs.Common.{replicate}
use Rattle.crn_ctext.specs.Records as records
use Rattle.crn_ctext.proofs.Forms.{numbers_of, all_same, row_record, row_records, way_of, row_form}
use Rattle.crn_cert.specs.Table as table
use Rattle.crn_ctext.proofs.BlockLaws.{BlocksAreRecords}
use Rattle.crn_ctext.proofs.FieldsTyped.{Holds}
use Rattle.crn_ctext.proofs.FieldsSaid.{field_said, head_said}
use Rattle.crn_ctext.proofs.RowsDerived.{rows_as_before}

-- the numbers of a row are ranged in one way only
abbrev OneWay : Row → Type 0
OneWay row = ways row.field ≡ way_of (ways row.field) ∷ []

row_said : (row : Row) (d : Datum) → OneWay row → FitsRow row d → records.Fits (row_form row) (row_record row d)
row_said row d e f = let s = field_said row.field d f in (refl, by s.0 (subst (IsIn s.0) e s.1) s.2)
  where
    by : (way : List records.Field) → IsIn way (way_of (ways row.field) ∷ []) → AreOf Holds way (numbers_of d) → AreOf Holds (way_of (ways row.field)) (numbers_of d)
    by way (inl s) p = subst (λ (w : List records.Field). AreOf Holds w (numbers_of d)) s p
    by way (inr none) p = absurd none

rows_said : (due : List Row) (ds : List Datum) → AllByRecursion OneWay due → AllZip FitsRow due ds → AllZip records.Fits (map row_form due) (row_records due ds)
rows_said [] [] a f = tt
rows_said (row ∷ due) (d ∷ ds) a f = (row_said row d a.0 f.0, rows_said due ds a.1 f.1)
rows_said due ds a f = absurd f

-- ---- the rows of the table

of_rank : (species rank : ℕ) (reactions : List ℕ) → AllByRecursion OneWay (rank_rows species rank reactions)
of_rank species rank reactions = (refl, all_append OneWay (replicate rank _) (replicate (length reactions - rank) _) (all_same OneWay rank _ refl) (all_same OneWay (length reactions - rank) _ refl))

of_classes : (known : Known) (k : ℕ) (ds : List ℕ) → AllByRecursion OneWay (class_rows known.net known.earlier k ds)
of_classes known k [] = tt
of_classes known k (d ∷ ds) =
    all_append OneWay (rank_rows (length known.net.names) (rank_in known.net known.earlier k d) (class_places known.net known.earlier k)) (class_rows known.net known.earlier (suc k) ds)
    (of_rank (length known.net.names) (rank_in known.net known.earlier k d) (class_places known.net known.earlier k)) (of_classes known (suc k) ds)

each : (f : ℕ → Row) (xs : List ℕ) → ((x : ℕ) → OneWay (f x)) → AllByRecursion OneWay (map f xs)
each f [] e = tt
each f (x ∷ xs) e = (e x, each f xs e)

one_ways : (q : Question) (known : Known) (z : Sizes) (kind : HeadKind) (h : List Datum) → AllByRecursion OneWay (rows_by known.net known.earlier z q kind h)
one_ways Q5 known z Rank h = of_rank z.species (table.first h) (range_with_len 1 z.reactions)
one_ways Q6 known z Deficiency h = of_classes known 1 (others h)
one_ways Q11 known z Yes h = each _ (pair_places known.net known.earlier) (λ r. refl)
one_ways Q12 known z YesVec h = (refl, all_same OneWay (z.complexes - 1) _ refl)
one_ways Q12 known z OnlyZero h = all_same OneWay z.complexes _ refl
one_ways q known z Classes h = assumption
one_ways q known z kind h = assumption

-- ---- a block

pub blocks_are_records : BlocksAreRecords
blocks_are_records known q h rs b =
    let kind = b.kind in
    let head = b.head in
    let rows = b.rows in
    let fits = b.head_fits in
    let due = table.rows known.net known.earlier q kind head in
    let one = subst (IsOneOf (heads q (table.sizes_of known.net known.earlier))) (sym b.head_is) (head_said q (table.sizes_of known.net known.earlier) kind head fits) in
    let said = rows_said due rows (one_ways q known (table.sizes_of known.net known.earlier) kind head) b.rows_fit in
    let below_is = subst (λ (h : Record). below q (shapes_of known) h ≡ map row_form due) (sym b.head_is) (rows_as_before known q kind head fits) in
    (one, subst (λ (fs : List Form). AllZip records.Fits fs rs) (sym below_is) (subst (AllZip records.Fits (map row_form due)) (sym b.rows_are) said))
