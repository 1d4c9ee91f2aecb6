-- The forms of the records below a head are those of the table.
use Rattle.crn_ctext.proofs.Prelude.{◌≡◌, ◌+◌, ◌-◌, ◌++◌, ◌∙◌, ℕ, zero, suc, Bool, true, false, List, [], ◌∷◌, length, map, refl, sym, ap, ap₂, subst, arith, ℤ, pos, replicate, codes, range_with_len, append-nil, class_members, Question, Q1, Q5, Q6, Q11, Q12, Q13, on, linkage, linkage_count, class_places, Form, free_form, class_forms, heads, landed_rows, below, place_of, Known, pairs_of, has_vector, sizes_of, shapes_of, HeadKind, Classes, Rank, Deficiency, Yes, YesVec, OnlyZero, Rests, Datum, FreeSeveral, Side, Row, row, rank_rows, rank_in, class_rows, fields, table_sizes, FitsHead, AllOf, given, fields_in, head_back}
use Rattle.crn_cert.specs.declared.head_kind.HeadKind.TheVariants.{Budget}
use Rattle.crn_cert.specs.Data.{Members}
use Rattle.crn_cert.specs.Table.{rows}
use Rattle.crn_ctext.proofs.Forms.{head_record, row_form}
use Rattle.crn_ctext.proofs.BlockLaws.{RowsAsBefore}

abbrev pub HeadOf : Known → Question → HeadKind → Type 0
HeadOf known q kind = AllOf (fields_in (fields q (table_sizes known.net known.earlier) kind))

abbrev pub head_by : (known : Known) (q : Question) (kind : HeadKind) → HeadOf known q kind → List Datum
head_by known q kind a = given (fields_in (fields q (table_sizes known.net known.earlier) kind)) a

abbrev AreForms : Known → Question → HeadKind → List Datum → Type 0
AreForms known q kind h = below q (shapes_of known) (head_record q kind h) ≡ map row_form (rows known.net known.earlier q kind h)

-- ---- forms in numbers

times_said : (word : List ℕ) (width count : ℕ) → map row_form (replicate count (row word (FreeSeveral width))) ≡ replicate count (free_form word width)
times_said word width zero = refl
times_said word width (suc n) = ap (λ (t : List Form). free_form word width ∷ t) (times_said word width n)

both_said : (rs more : List Row) → map row_form (rs ++ more) ≡ map row_form rs ++ map row_form more
both_said [] more = refl
both_said (r ∷ rs) more = ap (λ (t : List Form). row_form r ∷ t) (both_said rs more)

abbrev rank_by : ℕ → ℕ → List ℕ → List Form
rank_by species rank members = row_form (row (codes "base") (Members rank members)) ∷ replicate rank (free_form (codes "dual") species) ++ replicate (length members - rank) (free_form (codes "comb") (1 + rank))

rank_said : (species rank : ℕ) (members : List ℕ) → map row_form (rank_rows species rank members) ≡ rank_by species rank members
rank_said species rank members =
    let n = length members - rank in
    ap (λ (t : List Form). row_form (row (codes "base") (Members rank members)) ∷ t)
    (both_said (replicate rank (row (codes "dual") (FreeSeveral species))) (replicate n (row (codes "comb") (FreeSeveral (suc rank))))
    ∙ ap₂ (λ (x y : List Form). x ++ y) (times_said (codes "dual") species rank) (times_said (codes "comb") (suc rank) n ∙ ap (λ (w : ℕ). replicate n (free_form (codes "comb") w)) (let w : suc rank ≡ 1 + rank = omega arith in w)))

-- the lists of the classes from k on
abbrev sizes_from : Known → ℕ → ℕ → List ℕ
sizes_from known k n = map (λ (xs : List ℕ). length xs) (map (λ j. class_members (linkage known.earlier) j) (range_with_len k n))

abbrev places_from : Known → ℕ → ℕ → List (List ℕ)
places_from known k n = map (λ j. class_places known.net known.earlier j) (range_with_len k n)

classes_said : (known : Known) (k : ℕ) (ds : List ℕ) → class_forms (sizes_of known) (sizes_from known k (length ds)) (places_from known k (length ds)) (map pos ds) ≡ map row_form (class_rows known.net known.earlier k ds)
classes_said known k [] = refl
classes_said known k (d ∷ ds) =
    let s = length known.net.names in
    let r = rank_in known.net known.earlier k d in
    let members = class_places known.net known.earlier k in
    ap₂ (λ (x y : List Form). x ++ y) (sym (rank_said s r members)) (subst (λ (j : ℕ). class_forms (sizes_of known) (sizes_from known j (length ds)) (places_from known j (length ds)) (map pos ds) ≡ map row_form (class_rows known.net known.earlier (suc k) ds)) (let w : suc k ≡ k + 1 = omega arith in w) (classes_said known (suc k) ds))
    ∙ sym (both_said (rank_rows s r members) (class_rows known.net known.earlier (suc k) ds))

by_classes : (known : Known) (ds : List ℕ) → length ds ≡ linkage_count known.earlier → class_forms (sizes_of known) (shapes_of known).class_complexes (shapes_of known).class_members (map pos ds) ≡ map row_form (class_rows known.net known.earlier 1 ds)
by_classes known ds e = subst (λ (n : ℕ). class_forms (sizes_of known) (sizes_from known 1 n) (places_from known 1 n) (map pos ds) ≡ map row_form (class_rows known.net known.earlier 1 ds)) e (classes_said known 1 ds)

sides_said : (c : ℕ) (pairs : List ℕ) → map (λ r. row_form (row (codes "side") (Side r c))) pairs ≡ map row_form (map (λ r. row (codes "side") (Side r c)) pairs)
sides_said c [] = refl
sides_said c (r ∷ pairs) = ap (λ (t : List Form). row_form (row (codes "side") (Side r c)) ∷ t) (sides_said c pairs)

by_ties : (known : Known) (n : ℕ) → replicate n (free_form (codes "tie") (length known.net.names + linkage_count known.earlier)) ≡ map row_form (replicate n (row (codes "tie") (FreeSeveral (length known.net.names + linkage_count known.earlier))))
by_ties known n = sym (times_said (codes "tie") (length known.net.names + linkage_count known.earlier) n)

-- whether system 5 may be wide or not, no record is below an open head
abbrev open_below : Known → List (List ℕ) → ℕ → Bool → List Form
open_below known words n b = landed_rows Q13 (shapes_of known) (place_of (heads Q13 (record (sizes_of known) { vector = b })) words) (pos n ∷ [])

budget_said : (known : Known) (n : ℕ) (b : Bool) → open_below known (codes "q13" ∷ codes "open" ∷ codes "budget" ∷ []) n b ≡ []
budget_said known n true = refl
budget_said known n false = refl

rests_said : (known : Known) (n : ℕ) (b : Bool) → open_below known (codes "q13" ∷ codes "open" ∷ codes "rests" ∷ []) n b ≡ []
rests_said known n true = refl
rests_said known n false = refl

by_kind : (known : Known) (q : Question) (kind : HeadKind) (a : HeadOf known q kind) → FitsHead q (table_sizes known.net known.earlier) kind (head_by known q kind a) → AreForms known q kind (head_by known q kind a)
by_kind known Q1 Classes a h = refl
by_kind known Q5 Rank a h = sym (rank_said (length known.net.names) a.0 (range_with_len 1 (length known.net.reactions)))
by_kind known Q6 Deficiency a h = ap (λ (zs : List ℤ). class_forms (sizes_of known) (shapes_of known).class_complexes (shapes_of known).class_members zs) (append-nil (map pos a.0.1)) ∙ by_classes known a.0.1 (let x = h.0.1 in x.long)
by_kind known Q11 Yes a h = sides_said (length known.net.complexes) (pairs_of known)
by_kind known Q12 YesVec a h = ap (λ (t : List Form). free_form (codes "vec") (length known.net.complexes) ∷ t) (by_ties known (length known.net.complexes - 1))
by_kind known Q12 OnlyZero a h = by_ties known (length known.net.complexes)
by_kind known Q13 Budget a h = budget_said known a.0 (has_vector (on known.earlier Q12))
by_kind known Q13 Rests a h = rests_said known a.0 (has_vector (on known.earlier Q12))
by_kind known q Classes a h = search (refl, h)
by_kind known q kind a h = search (refl, h)

pub rows_as_before : RowsAsBefore
rows_as_before known q kind h f =
    let a = head_back (fields q (table_sizes known.net known.earlier) kind) h f in
    let head = subst (λ (h : List Datum). FitsHead q (table_sizes known.net known.earlier) kind h) a.1 f in
    subst (λ (h : List Datum). AreForms known q kind h) (sym a.1) (by_kind known q kind a.0 head)
