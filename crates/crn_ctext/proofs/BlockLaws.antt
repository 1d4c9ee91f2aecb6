-- What the forms and the records of documents have to do with blocks.
use Rattle.crn_ctext.proofs.Prelude.{AllZip, Question, Datum, FitsHead, FitsRow, HeadKind, Record, heads, below, IsOneOf, Known, sizes_of, shapes_of}
use Rattle.std.specs.Prelude.{◌≡◌, List, ◌∷◌, map}
use Rattle.crn_cert.specs.Table as table
use Rattle.crn_ctext.specs.Records as records
use Rattle.crn_ctext.proofs.Forms.{row_form, head_record, row_records}

-- the forms of the records below a head are those of the table
abbrev pub RowsAsBefore : Type 0
RowsAsBefore = (known : Known) (q : Question) (kind : HeadKind) (h : List Datum)
    → FitsHead q (table.sizes_of known.net known.earlier) kind h
    → below q (shapes_of known) (head_record q kind h)
    ≡ map row_form (table.rows known.net known.earlier q kind h)

-- the head and the records below it are those of a block that fits, but for its trees
pub record AreOfBlock (known : Known) (q : Question) (h : Record) (rs : List Record) : Type 0 where
  pub kind : HeadKind
  pub head : List Datum
  pub rows : List Datum
  pub head_fits : FitsHead q (table.sizes_of known.net known.earlier) kind head
  pub rows_fit : AllZip FitsRow (table.rows known.net known.earlier q kind head) rows
  pub head_is : h ≡ head_record q kind head
  pub rows_are : rs ≡ row_records (table.rows known.net known.earlier q kind head) rows

-- a head that fits a form of its question, and records that fit the forms below it, are of a block
abbrev pub RecordsAreBlocks : Type 0
RecordsAreBlocks = (known : Known) (q : Question) (h : Record) (rs : List Record)
    → IsOneOf (heads q (sizes_of known)) h
    → AllZip records.Fits (below q (shapes_of known) h) rs → AreOfBlock known q h rs

-- and the other way round: the records of a block that fits, but for its trees, fit the forms
abbrev pub BlocksAreRecords : Type 0
BlocksAreRecords = (known : Known) (q : Question) (h : Record) (rs : List Record)
    → AreOfBlock known q h rs
    → IsOneOf (heads q (sizes_of known)) h × AllZip records.Fits (below q (shapes_of known) h) rs
