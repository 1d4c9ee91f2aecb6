-- The records of a formed answer are those of its block.
use Rattle.crn_ctext.proofs.Prelude.{◌≡◌, ◌+◌, ◌-◌, ◌++◌, ◌∙◌, ℕ, zero, suc, true, false, List, [], ◌∷◌, length, map, refl, sym, ap, ap₂, arith, ℤ, pos, replicate, codes, AllZip, flat_map, range_with_len, append-nil, WideGap, Verdict, Unknown, Proof, Nothing, Forest, StrongTrees, Back, RankRows, Ranks, Sides, Ties, One, Two, RankProof, Question, Q1, Q2, Q3, Q5, Q6, Q11, Q12, Q13, Q14, Q15, AreClassProofs, class_places, pair_places, Record, one_word, rank_records, side_records, small_record, Known, pairs_of, Datum, Ints, FreeSeveral, Side, Row, row, rank_rows, rank_in, class_rows, IsFormedOf, FitsTree, rank_data, side_data, trees_of, proof_by, tight_proof, rank_long, below_long, duals_long, free_there, rank_formed, classes_formed, sides_formed, FitsRow, rows_of, Odd, Gap, head_of, head_with, records_below, shapes_of}
use Rattle.crn_cert.specs.declared.answer.Verdict.TheVariants.{Classes, Strong, Rank, Deficiency, Yes, YesWeak, YesVec, No, OnlyZero}
use Rattle.crn_cert.specs.Blocks.{head_of as kind_of}
use Rattle.crn_cert.specs.Data.{Field, Fits, Free}
use Rattle.crn_cert.specs.Table as table
use Rattle.crn_ctext.proofs.Forms.{head_record, row_record, row_records}

-- if no tree is due, a proof by trees is nothing
pub bare : (P : Proof → Type 0) (p : Proof) → AllZip FitsTree [] (trees_of p) → proof_by (trees_of p) ≡ tight_proof p → P Nothing → P p
bare P Nothing t e k = k
bare P (One tree) t e k = absurd t
bare P (Two tree second) t e k = absurd t
bare P p t e k = absurd cc

free_records : (word : List ℕ) (count width : ℕ) (us : List (List ℤ)) → length us ≡ count → row_records (replicate count (row word (FreeSeveral width))) (map Ints us) ≡ map (one_word word) us
free_records word zero width [] e = refl
free_records word (suc n) width (u ∷ us) e = ap (λ (t : List Record). one_word word u ∷ t) (free_records word n width us (omega (arith, e)))
free_records word count width us e = absurd (omega (arith, e))

both_records : (rs more : List Row) (us vs : List Datum) → length us ≡ length rs → row_records (rs ++ more) (us ++ vs) ≡ row_records rs us ++ row_records more vs
both_records [] more [] vs e = refl
both_records (r ∷ rs) more (u ∷ us) vs e = ap (λ (t : List Record). row_record r u ∷ t) (both_records rs more us vs (omega (arith, e)))
both_records rs more us vs e = absurd (omega (arith, e))

rank_said : (species rank : ℕ) (members : List ℕ) (p : RankProof) → length p.duals ≡ rank → length p.combs ≡ length members - rank → row_records (rank_rows species rank members) (rank_data p) ≡ rank_records p
rank_said species rank members p d c =
    let n = length members - rank in
    ap (λ (t : List Record). small_record (codes "base") p.base.list ∷ t)
    (both_records (replicate rank (row (codes "dual") (FreeSeveral species))) (replicate n (row (codes "comb") (FreeSeveral (suc rank)))) (map Ints p.duals) (map Ints p.combs) (duals_long species rank p.duals d)
    ∙ ap₂ (λ (x y : List Record). x ++ y) (free_records (codes "dual") rank species p.duals d) (free_records (codes "comb") n (suc rank) p.combs c))

pub classes_said : (known : Known) (k : ℕ) (ds : List ℕ) (ps : List RankProof) → AreClassProofs known.net known.earlier k ds ps → row_records (class_rows known.net known.earlier k ds) (flat_map rank_data ps) ≡ flat_map rank_records ps
classes_said known k [] [] f = refl
classes_said known k (d ∷ ds) (p ∷ ps) f =
    let s = length known.net.names in
    let r = rank_in known.net known.earlier k d in
    let members = class_places known.net known.earlier k in
    let duals = (let x = f.0 in let y = x.duals in y.long) in
    let combs = (let x = f.0 in let y = x.combs in y.long) in
    let long : length (rank_data p) ≡ length (rank_rows s r members) = ap suc (below_long p ∙ ap₂ (λ (a b : ℕ). a + b) duals combs) ∙ sym (rank_long s r members) in
    both_records (rank_rows s r members) (class_rows known.net known.earlier (suc k) ds) (rank_data p) (flat_map rank_data ps) long ∙ ap₂ (λ (x y : List Record). x ++ y) (rank_said s r members p duals combs) (classes_said known (suc k) ds ps f.1)
classes_said known k ds ps f = absurd f

sides_said : (c : ℕ) (pairs : List ℕ) (sides : List (List ℤ)) → length sides ≡ length pairs → row_records (map (λ r. row (codes "side") (Side r c)) pairs) (side_data pairs sides) ≡ side_records pairs sides
sides_said c [] [] e = refl
sides_said c (r ∷ pairs) (m ∷ sides) e = ap (λ (t : List Record). one_word (codes "side") (pos r ∷ m) ∷ t) (sides_said c pairs sides (omega (arith, e)))
sides_said c pairs sides e = absurd (omega (arith, e))

-- ---- the record of a head

pub head_as_before : (q : Question) (v : Verdict) → head_of q v ≡ head_record q (kind_of v).0 (kind_of v).1
head_as_before q (Deficiency total classes) = ap (λ (zs : List ℤ). head_with q [] zs) (sym (append-nil (map pos (total ∷ classes.list))))
head_as_before q (YesWeak true) = refl
head_as_before q (Unknown (WideGap system class index basis)) = ap (λ (zs : List ℤ). head_with q (codes "open" ∷ codes "wide" ∷ []) zs) (sym (append-nil (map pos (system ∷ class ∷ index ∷ basis.list))))
head_as_before q v = refl

-- ---- the records below it

abbrev rows_due : Known → Question → Verdict → List Row
rows_due known q v = table.rows known.net known.earlier q (kind_of v).0 (kind_of v).1

abbrev pub AreRowsOf : Known → Question → Verdict → Proof → Type 0
AreRowsOf known q v p = records_below (shapes_of known) (record { verdict = v; proof = p }) ≡ row_records (rows_due known q v) (rows_of known.net known.earlier v p)

no_records : (rows : List Row) → [] ≡ row_records rows []
no_records [] = refl
no_records (row ∷ rows) = refl

odd_fits : (field : Field) → Fits field Odd → ⊥
odd_fits Free f = f
odd_fits field f = f

odd_rows : (rows : List Row) → AllZip FitsRow rows (Odd ∷ []) → ⊥
odd_rows [] f = f
odd_rows (row ∷ rows) f = odd_fits row.field f.0

-- below an open head there are none
open_rows : (known : Known) (q : Question) (gap : Gap) (p : Proof) → IsFormedOf known.net known.earlier q (Unknown gap) p → AreRowsOf known q (Unknown gap) p
open_rows known q gap Nothing f = no_records (rows_due known q (Unknown gap))
open_rows known q gap (One tree) f = no_records (rows_due known q (Unknown gap))
open_rows known q gap (Two tree second) f = no_records (rows_due known q (Unknown gap))
open_rows known q gap p f = let b = f.0 in absurd (odd_rows (rows_due known q (Unknown gap)) b.rows)

pub records_as_before : (known : Known) (q : Question) (v : Verdict) (p : Proof) → IsFormedOf known.net known.earlier q v p → AreRowsOf known q v p
records_as_before known Q1 (Classes count label) (Forest up depth) f = refl
records_as_before known Q1 (Classes count label) p f = absurd (let s = f.1.1 in cc)
records_as_before known Q2 (Strong count terminal label exit) (StrongTrees from from_depth to to_depth level) f = refl
records_as_before known Q2 (Strong count terminal label exit) p f = absurd (let s = f.1.1 in cc)
records_as_before known Q3 Yes (Back back) f = refl
records_as_before known Q3 Yes p f = absurd (let s = f.1.1 in cc)
records_as_before known Q5 (Rank rank base) (RankRows p) f =
    let r = rank_formed known.net known.earlier rank base p f in
    let d = r.duals in
    let c = r.combs in
    append-nil (rank_records p) ∙ sym (rank_said (length known.net.names) rank (range_with_len 1 (length known.net.reactions)) p d.long c.long)
records_as_before known Q5 (Rank rank base) p f = absurd (let s = f.1.1 in cc)
records_as_before known Q6 (Deficiency total classes) (Ranks list) f =
    append-nil (flat_map rank_records list) ∙ sym (classes_said known 1 classes.list list (classes_formed known.net known.earlier total classes list f))
records_as_before known Q6 (Deficiency total classes) p f = absurd (let s = f.1.1 in cc)
records_as_before known Q11 Yes (Sides sides) f =
    let r = sides_formed known.net known.earlier sides f in
    append-nil (side_records (pairs_of known) sides) ∙ sym (sides_said (length known.net.complexes) (pair_places known.net known.earlier) sides r.long)
records_as_before known Q11 Yes p f = absurd (let s = f.1.1 in cc)
records_as_before known Q12 (YesVec vector) (Ties ties) f =
    let b = f.0 in
    let below = b.rows in
    let r = free_there (codes "tie") _ _ ties below.1 in
    ap (λ (t : List Record). one_word (codes "vec") vector.list ∷ t) (append-nil (map (one_word (codes "tie")) ties) ∙ sym (free_records (codes "tie") _ _ ties r.long))
records_as_before known Q12 (YesVec vector) p f = absurd (let s = f.1.1 in cc)
records_as_before known Q12 OnlyZero (Ties ties) f =
    let b = f.0 in
    let r = free_there (codes "tie") _ _ ties b.rows in
    append-nil (map (one_word (codes "tie")) ties) ∙ sym (free_records (codes "tie") _ _ ties r.long)
records_as_before known Q12 OnlyZero p f = absurd (let s = f.1.1 in cc)
records_as_before known Q13 No (One tree) f = refl
records_as_before known Q13 No p f = let s = f.1.1 in first_of (search refl, cc)
records_as_before known Q14 Yes (One tree) f = refl
records_as_before known Q14 Yes p f = let s = f.1.1 in first_of (search refl, cc)
records_as_before known Q15 Yes (One tree) f = refl
records_as_before known Q15 Yes p f = let s = f.1.1 in first_of (search refl, cc)
records_as_before known q (Unknown gap) p f = open_rows known q gap p f
records_as_before known q v p f =
    let b = f.0 in
    let h = b.head in
    bare (λ (x : Proof). AreRowsOf known q v x) p b.trees f.1.1 (search (refl, h))
