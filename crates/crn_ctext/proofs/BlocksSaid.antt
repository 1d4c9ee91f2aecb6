-- The verdict that the records of a block say is that of the block.
use Rattle.crn_ctext.proofs.Prelude.{◌≡◌, ◌∙◌, ℕ, List, [], ◌∷◌, map, refl, sym, ap, ap₂, subst, inl, inr, ℤ, pos, AllZip, flat_map, append-nil, abs_back, KeptNums, WideGap, Question, Q1, Q2, Q5, Q6, Q7, Q8, Q11, Q12, Q13, Q14, Q15, on, Known, has_vector, nums, turn_of, wide_gap, verdict_by, said_verdict, said_sizes, kind_at, IsTurn, HeadKind, Classes, Strong, Rank, Deficiency, YesSignal, NoCycle, Rests, Datum, Ints, Led, Basis, Row, fields, FitsRow, FitsHead, ints_in, AllOf, given, head_back, rows_back}
use Rattle.crn_cert.specs.declared.head_kind.HeadKind.TheVariants.{Wide, Budget}
use Rattle.crn_cert.specs.Table.{rows, sizes_of}
use Rattle.crn_cert.specs.Blocks.{verdict_of}
use Rattle.crn_cert.proofs.CallerLemmas.{fields_of}
use Rattle.crn_cert.specs.declared.answer.Verdict.TheVariants as verdict
use Rattle.crn_ctext.proofs.Forms.{numbers_of, head_record, row_records, spent_place, rests_place}
use Rattle.crn_ctext.proofs.RowsDerived.{HeadOf, head_by}

-- the records of a head and of the rows below it say the verdict of the block
abbrev pub IsSaid : Known → Question → HeadKind → List Datum → List Datum → Type 0
IsSaid known q kind h r = said_verdict q (said_sizes known) (head_record q kind h) (row_records (rows known.net known.earlier q kind h) r) ≡ verdict_of kind h r

abbrev pub due : (known : Known) (q : Question) (kind : HeadKind) → HeadOf known q kind → List Row
due known q kind a = rows known.net known.earlier q kind (head_by known q kind a)

by_rows : (known : Known) (q : Question) (kind : HeadKind) (a : HeadOf known q kind) (r : List Datum) → AllZip FitsRow (due known q kind a) r
    → ((b : AllOf (fields_of (due known q kind a))) → IsSaid known q kind (head_by known q kind a) (given (fields_of (due known q kind a)) b)) → IsSaid known q kind (head_by known q kind a) r
by_rows known q kind a r f k = let b = rows_back (due known q kind a) r f in subst (λ (r : List Datum). IsSaid known q kind (head_by known q kind a) r) (sym b.1) (k b.0)

abbrev pub kept : List ℕ → KeptNums
kept xs = record { list = xs; spare = 0 }

pub nums_back : (xs : List ℕ) → nums (map pos xs) ≡ kept xs
nums_back xs = ap (λ (t : List ℕ). kept t) (abs_back xs)

-- the numbers of an open head whose system is wide
wide_said : (system class index : ℕ) (basis : List ℕ) → verdict.Unknown (wide_gap (flat_map numbers_of (Basis system class index basis ∷ []))) ≡ verdict_of Wide (Basis system class index basis ∷ []) []
wide_said system class index basis = ap (λ (t : List ℤ). verdict.Unknown (WideGap system class index (nums t))) (append-nil (map pos basis)) ∙ ap (λ (k : KeptNums). verdict.Unknown (WideGap system class index k)) (nums_back basis)

pub turn_is : (turn : ℤ) → IsTurn turn → turn_of turn ≡ turn
turn_is turn (inl e) = subst (λ (z : ℤ). turn_of z ≡ z) (sym e) refl
turn_is turn (inr e) = subst (λ (z : ℤ). turn_of z ≡ z) (sym e) refl

deficiency_said : (known : Known) (total : ℕ) (ds : List ℕ) (r : List Datum) → IsSaid known Q6 Deficiency (Led total ds ∷ []) r
deficiency_said known total ds r = ap (λ (t : List ℤ). verdict.Deficiency total (nums t)) (append-nil (map pos ds)) ∙ ap (λ (k : KeptNums). verdict.Deficiency total k) (nums_back ds)

-- for each question and kind of head
said_by : (known : Known) (q : Question) (kind : HeadKind) (a : HeadOf known q kind) (r : List Datum) → FitsHead q (sizes_of known.net known.earlier) kind (head_by known q kind a) → AllZip FitsRow (due known q kind a) r → IsSaid known q kind (head_by known q kind a) r
said_by known Q1 Classes a r h f = by_rows known Q1 Classes a r f (λ b. ap (λ (x : KeptNums). verdict.Classes a.0 x) (nums_back b.0))
said_by known Q2 Strong a r h f = by_rows known Q2 Strong a r f (λ b. ap₂ (λ (x y : KeptNums). verdict.Strong a.0.0 a.0.1 x y) (nums_back b.0) (nums_back b.1.1.1.1.1.1.0))
said_by known Q5 Rank a r h f = by_rows known Q5 Rank a r f (λ b. ap (λ (k : KeptNums). verdict.Rank a.0 k) (nums_back b.0))
said_by known Q5 Wide a r h f = wide_said a.0.0 a.0.1 a.0.2 a.0.3
said_by known Q6 Deficiency a r h f = deficiency_said known a.0.0 a.0.1 r
said_by known Q6 Wide a r h f = wide_said a.0.0 a.0.1 a.0.2 a.0.3
said_by known Q7 Wide a r h f = wide_said a.0.0 a.0.1 a.0.2 a.0.3
said_by known Q8 Wide a r h f = wide_said a.0.0 a.0.1 a.0.2 a.0.3
said_by known Q11 NoCycle a r h f = by_rows known Q11 NoCycle a r f (λ b. ap (λ (x : KeptNums). verdict.NoCycle a.0 x) (nums_back b.0))
said_by known Q12 Wide a r h f = wide_said a.0.0 a.0.1 a.0.2 a.0.3
said_by known Q13 YesSignal a r h f = by_rows known Q13 YesSignal a r f (λ b. ap (λ (z : ℤ). verdict.YesSignal z (ints_in (Ints b.0)) (ints_in (Ints b.1.0)) b.1.1.0 (ints_in (Ints b.1.1.1.0))) (turn_is a.0 h.0))
said_by known Q13 Wide a r h f = wide_said a.0.0 a.0.1 a.0.2 a.0.3
said_by known Q13 Budget a r h f = ap (λ (place : ℕ). verdict_by (kind_at Q13 place) (pos a.0 ∷ []) []) (spent_place (has_vector (on known.earlier Q12)) (said_sizes known))
said_by known Q13 Rests a r h f = ap (λ (place : ℕ). verdict_by (kind_at Q13 place) (pos a.0 ∷ []) []) (rests_place (has_vector (on known.earlier Q12)) (said_sizes known))
said_by known Q14 Wide a r h f = wide_said a.0.0 a.0.1 a.0.2 a.0.3
said_by known Q15 Wide a r h f = wide_said a.0.0 a.0.1 a.0.2 a.0.3
said_by known q Classes a r h f = search (refl, h)
said_by known q kind a r h f = by_rows known q kind a r f (λ b. search (refl, h))

-- the records of a block say its verdict
pub block_said : (known : Known) (q : Question) (kind : HeadKind) (h r : List Datum) → FitsHead q (sizes_of known.net known.earlier) kind h → AllZip FitsRow (rows known.net known.earlier q kind h) r → IsSaid known q kind h r
block_said known q kind h r f g =
    let a = head_back (fields q (sizes_of known.net known.earlier) kind) h f in
    let head = subst (λ (h : List Datum). FitsHead q (sizes_of known.net known.earlier) kind h) a.1 f in
    let below = subst (λ (h : List Datum). AllZip FitsRow (rows known.net known.earlier q kind h) r) a.1 g in
    subst (λ (h : List Datum). IsSaid known q kind h r) (sym a.1) (said_by known q kind a.0 r head below)
