-- The proof that the records below a head show is that of the block, but for its trees.
use Rattle.crn_ctext.proofs.Prelude.{◌≡◌, ◌∙◌, ◌-◌, ◌+◌, ◌++◌, ℕ, suc, List, [], ◌∷◌, length, map, take, drop, refl, sym, ap, ap₂, subst, ℤ, pos, replicate, codes, AllByRecursion, AllZip, flat_map, range_with_len, append-nil, take-map, drop-map, all_append, KeptNums, RankProof, Question, Q1, Q2, Q3, Q5, Q6, Q11, Q12, Q13, on, linkage_count, pair_places, HeadKind, Classes, Strong, Rank, Deficiency, Yes, YesVec, OnlyZero, Rests, Datum, Num, Nums, Ints, Marks, Led, FreeSeveral, Side, AreClassProofs, tight_rank, Row, row, rank_rows, class_rows, fields, Block, FitsBlock, FitsRow, FitsHead, proof_of, rank_proof, class_proofs, rank_data, list_in, AllOf, given, head_back, rows_back, classes_formed, blocks_are_of_answers, kind_at, later_numbers, Record, rank_records, Known, has_vector, nums, lists, shapes_of, said_sizes, ranks_of, said_proof, said_rank, said_classes}
use Rattle.crn_cert.specs.declared.head_kind.HeadKind.TheVariants.{Budget}
use Rattle.crn_cert.specs.Data.{Field, Fits}
use Rattle.crn_cert.specs.Table.{rows, sizes_of}
use Rattle.crn_cert.proofs.CallerLemmas.{fields_of}
use Rattle.crn_ctext.specs.Meaning.{proof_by}
use Rattle.crn_cert.specs.declared.answer.Proof.TheVariants as proof
use Rattle.crn_ctext.proofs.RanksLinked.{places_from, sizes_from, classes_said as ranks_said}
use Rattle.crn_ctext.proofs.RecordsDerived.{classes_said}
use Rattle.crn_ctext.proofs.BlocksFormed.{answers_formed, classes_tight}
use Rattle.crn_ctext.proofs.Forms.{numbers_of, head_record, row_records, spent_place, rests_place, all_same}
use Rattle.crn_ctext.proofs.RowsDerived.{HeadOf, head_by}
use Rattle.crn_ctext.proofs.BlocksSaid.{due, kept, nums_back}

-- ---- numbers of records

abbrev IsFreeRow : Row → Type 0
IsFreeRow r = (n : ℕ) × (r.field ≡ FreeSeveral n)

free_list : (r : Row) (d : Datum) → IsFreeRow r → FitsRow r d → numbers_of d ≡ list_in d
free_list r (Ints zs) i f = refl
free_list r d i f = absurd (subst (λ (x : Field). Fits x d) i.1 f)

free_lists : (rs : List Row) (us : List Datum) → AllByRecursion IsFreeRow rs → AllZip FitsRow rs us → lists (row_records rs us) ≡ map list_in us
free_lists [] [] i f = refl
free_lists (r ∷ rs) (u ∷ us) i f = ap₂ (λ (x : List ℤ) (xs : List (List ℤ)). x ∷ xs) (free_list r u i.0 f.0) (free_lists rs us i.1 f.1)
free_lists rs us i f = absurd f

abbrev proof_with : KeptNums → List (List ℤ) → List (List ℤ) → RankProof
proof_with base duals combs = record { base = base; duals = duals; combs = combs }

rank_shown : (species rank : ℕ) (members : List ℕ) (us : List Datum) → AllZip FitsRow (rank_rows species rank members) us → said_rank rank (lists (row_records (rank_rows species rank members) us)) ≡ rank_proof rank us
rank_shown species rank members [] f = absurd f
rank_shown species rank members (Nums xs ∷ us) f =
    let duals = replicate rank (row (codes "dual") (FreeSeveral species)) in
    let combs = replicate (length members - rank) (row (codes "comb") (FreeSeveral (suc rank))) in
    let all : lists (row_records (duals ++ combs) us) ≡ map list_in us =
    free_lists (duals ++ combs) us (all_append IsFreeRow duals combs (all_same IsFreeRow rank (row (codes "dual") (FreeSeveral species)) (species, refl)) (all_same IsFreeRow (length members - rank) (row (codes "comb") (FreeSeveral (suc rank))) (suc rank, refl))) f.1 in
    ap₂ (λ (a b : List (List ℤ)). proof_with (nums (map pos xs)) a b) (ap (λ (t : List (List ℤ)). take rank t) all ∙ take-map list_in rank us) (ap (λ (t : List (List ℤ)). drop rank t) all ∙ drop-map list_in rank us)
    ∙ ap (λ (b : KeptNums). proof_with b (map list_in (take rank us)) (map list_in (drop rank us))) (nums_back xs)
rank_shown species rank members (d ∷ us) f = absurd f.0

sides_shown : (c : ℕ) (pairs : List ℕ) (us : List Datum) → AllZip FitsRow (map (λ r. row (codes "side") (Side r c)) pairs) us → map later_numbers (lists (row_records (map (λ r. row (codes "side") (Side r c)) pairs) us)) ≡ map list_in us
sides_shown c [] [] f = refl
sides_shown c (r ∷ pairs) (Marks n zs ∷ us) f = ap (λ (t : List (List ℤ)). zs ∷ t) (sides_shown c pairs us f.1)
sides_shown c (r ∷ pairs) (u ∷ us) f = absurd f.0
sides_shown c pairs us f = absurd f

-- ---- for each question and kind of head

-- the records show the proof of the block
abbrev pub IsShown : Known → Question → HeadKind → List Datum → List Datum → Type 0
IsShown known q kind h r = said_proof q (shapes_of known) (head_record q kind h) (row_records (rows known.net known.earlier q kind h) r) ≡ proof_of known.net known.earlier q kind h r []

by_rows : (known : Known) (q : Question) (kind : HeadKind) (a : HeadOf known q kind) (r : List Datum) → AllZip FitsRow (due known q kind a) r
    → ((b : AllOf (fields_of (due known q kind a))) → IsShown known q kind (head_by known q kind a) (given (fields_of (due known q kind a)) b)) → IsShown known q kind (head_by known q kind a) r
by_rows known q kind a r f k = let b = rows_back (due known q kind a) r f in subst (λ (r : List Datum). IsShown known q kind (head_by known q kind a) r) (sym b.1) (k b.0)

ties_shown : (known : Known) (r : List Datum) → AllZip FitsRow (rows known.net known.earlier Q12 YesVec []) r → IsShown known Q12 YesVec [] r
ties_shown known [] f = absurd f
ties_shown known (Ints zs ∷ us) f =
    let width = length known.net.names + linkage_count known.earlier in
    let count = length known.net.complexes - 1 in
    ap (λ (t : List (List ℤ)). proof.Ties t) (free_lists (replicate count (row (codes "tie") (FreeSeveral width))) us (all_same IsFreeRow count (row (codes "tie") (FreeSeveral width)) (width, refl)) f.1)
ties_shown known (d ∷ us) f = absurd f.0

-- the proofs of the ranks of all classes
classes_shown : (known : Known) (total : ℕ) (ds : List ℕ) (r : List Datum) → FitsHead Q6 (sizes_of known.net known.earlier) Deficiency (Led total ds ∷ []) → AllZip FitsRow (rows known.net known.earlier Q6 Deficiency (Led total ds ∷ [])) r → IsShown known Q6 Deficiency (Led total ds ∷ []) r
classes_shown known total ds r h f =
    let net = known.net in
    let earlier = known.earlier in
    let b : Block = record { kind = Deficiency; head = Led total ds ∷ []; rows = r; trees = [] } in
    let fits : FitsBlock net earlier Q6 b = record { head = h; rows = f; trees = tt } in
    let ps : List RankProof = class_proofs net earlier 1 ds r in
    let each : AreClassProofs net earlier 1 ds ps = classes_formed net earlier total (kept ds) ps (answers_formed known Q6 b fits) in
    let again : flat_map rank_data ps ≡ r = ap (λ (c : Block). c.rows) (blocks_are_of_answers net earlier Q6 b fits) in
    let below : row_records (class_rows net earlier 1 ds) r ≡ flat_map rank_records ps = ap (λ (us : List Datum). row_records (class_rows net earlier 1 ds) us) (sym again) ∙ classes_said known 1 ds ps each in
    let count : length ds ≡ linkage_count earlier = (let s = h.0.1 in s.long) in
    let all : said_classes (sizes_from earlier 1 (linkage_count earlier)) (places_from net earlier 1 (linkage_count earlier)) (map pos ds) (flat_map rank_records ps) ≡ map tight_rank ps =
    subst (λ (n : ℕ). said_classes (sizes_from earlier 1 n) (places_from net earlier 1 n) (map pos ds) (flat_map rank_records ps) ≡ map tight_rank ps) count (ranks_said net earlier 1 ds ps each) in
    ap (λ (xs : List RankProof). proof.Ranks xs)
    (ap₂ (λ (zs : List ℤ) (rs : List Record). said_classes (sizes_from earlier 1 (linkage_count earlier)) (places_from net earlier 1 (linkage_count earlier)) zs rs) (append-nil (map pos ds)) below ∙ all ∙ classes_tight known 1 ds r)

shown_by : (known : Known) (q : Question) (kind : HeadKind) (a : HeadOf known q kind) (r : List Datum) → FitsHead q (sizes_of known.net known.earlier) kind (head_by known q kind a) → AllZip FitsRow (due known q kind a) r → IsShown known q kind (head_by known q kind a) r
shown_by known Q1 Classes a r h f = by_rows known Q1 Classes a r f (λ b. ap₂ (λ (x y : KeptNums). proof.Forest x y) (nums_back b.1.0) (nums_back b.1.1.0))
shown_by known Q2 Strong a r h f = by_rows known Q2 Strong a r f (λ b.
    ap₂ (λ (x y : KeptNums). proof.Strong x y (nums (map pos b.1.1.1.0)) (nums (map pos b.1.1.1.1.0)) (nums (map pos b.1.1.1.1.1.0))) (nums_back b.1.0) (nums_back b.1.1.0)
    ∙ ap₂ (λ (x y : KeptNums). proof.Strong (kept b.1.0) (kept b.1.1.0) x y (nums (map pos b.1.1.1.1.1.0))) (nums_back b.1.1.1.0) (nums_back b.1.1.1.1.0)
    ∙ ap (λ (x : KeptNums). proof.Strong (kept b.1.0) (kept b.1.1.0) (kept b.1.1.1.0) (kept b.1.1.1.1.0) x) (nums_back b.1.1.1.1.1.0))
shown_by known Q3 Yes a r h f = by_rows known Q3 Yes a r f (λ b. ap (λ (x : KeptNums). proof.Back x) (nums_back b.0))
shown_by known Q5 Rank a r h f = ap (λ (x : RankProof). proof.Rank x) (rank_shown (length known.net.names) a.0 (range_with_len 1 (length known.net.reactions)) r f)
shown_by known Q6 Deficiency a r h f = classes_shown known a.0.0 a.0.1 r h f
shown_by known Q11 Yes a r h f = ap (λ (t : List (List ℤ)). proof.Sides t) (sides_shown (length known.net.complexes) (pair_places known.net known.earlier) r f)
shown_by known Q12 YesVec a r h f = ties_shown known r f
shown_by known Q12 OnlyZero a r h f =
    let width = length known.net.names + linkage_count known.earlier in
    let count = length known.net.complexes in
    ap (λ (t : List (List ℤ)). proof.Ties t) (free_lists (replicate count (row (codes "tie") (FreeSeveral width))) r (all_same IsFreeRow count (row (codes "tie") (FreeSeveral width)) (width, refl)) f)
shown_by known Q13 Budget a r h f = ap (λ (place : ℕ). proof_by (kind_at Q13 place) Q13 (ranks_of (shapes_of known) (head_record Q13 Budget (Num a.0 ∷ [])) []) (pos a.0 ∷ []) []) (spent_place (has_vector (on known.earlier Q12)) (said_sizes known))
shown_by known Q13 Rests a r h f = ap (λ (place : ℕ). proof_by (kind_at Q13 place) Q13 (ranks_of (shapes_of known) (head_record Q13 Rests (Num a.0 ∷ [])) []) (pos a.0 ∷ []) []) (rests_place (has_vector (on known.earlier Q12)) (said_sizes known))
shown_by known q Classes a r h f = search (refl, h)
shown_by known q kind a r h f = search (refl, h)

pub block_shown : (known : Known) (q : Question) (kind : HeadKind) (h r : List Datum) → FitsHead q (sizes_of known.net known.earlier) kind h → AllZip FitsRow (rows known.net known.earlier q kind h) r → IsShown known q kind h r
block_shown known q kind h r f g =
    let a = head_back (fields q (sizes_of known.net known.earlier) kind) h f in
    let head = subst (λ (h : List Datum). FitsHead q (sizes_of known.net known.earlier) kind h) a.1 f in
    let below = subst (λ (h : List Datum). AllZip FitsRow (rows known.net known.earlier q kind h) r) a.1 g in
    subst (λ (h : List Datum). IsShown known q kind h r) (sym a.1) (shown_by known q kind a.0 r head below)
