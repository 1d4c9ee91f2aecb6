-- Rows of free numbers, of ranks and of sides as data.
use Rattle.crn_cert.proofs.Prelude.{◌≡◌, ◌≤◌, ◌+◌, ◌-◌, ◌++◌, ◌∙◌, ℕ, zero, suc, List, [], ◌∷◌, length, map, take, drop, refl, ap, ap₂, sym, subst, arith, length-drop, ℤ, replicate, codes, AllByRecursion, AllZip, flat_map, length-append, length-map, length-replicate, take_at, drop_at, Net, zip_long, Earlier, AreBits, AreFree, AreFreeRows, RankProof, IsRankProof, AreClassProofs, AreSides, class_places, tight_rank, Datum, Nums, Ints, FreeSeveral, Side, Row, row, rank_rows, rank_in, class_rows, FitsRow, list_in, rank_data, rank_proof, class_proofs, side_data}
use Rattle.std.proofs.Common.{length-take}

-- ---- rows of free numbers

pub free_there : (word : List ℕ) (count width : ℕ) (us : List (List ℤ)) → AllZip FitsRow (replicate count (row word (FreeSeveral width))) (map Ints us) → AreFreeRows count width us
free_there word zero width [] f = record { long = refl; each = tt }
free_there word (suc n) width (u ∷ us) f =
    let more = free_there word n width us f.1 in
    let long = more.long in
    let each = more.each in
    record { long = ap suc long; each = (f.0, each) }
free_there word count width us f = absurd f

pub free_back : (word : List ℕ) (count width : ℕ) (us : List (List ℤ)) → length us ≡ count → AllByRecursion (AreFree width) us → AllZip FitsRow (replicate count (row word (FreeSeveral width))) (map Ints us)
free_back word zero width [] e f = tt
free_back word (suc n) width (u ∷ us) e f = (f.0, free_back word n width us (omega (arith, e)) f.1)
free_back word count width us e f = absurd (omega (arith, e))

-- the data of rows of free numbers are lists of whole numbers
pub free_lists : (word : List ℕ) (count width : ℕ) (us : List Datum) → AllZip FitsRow (replicate count (row word (FreeSeveral width))) us → us ≡ map Ints (map list_in us)
free_lists word zero width [] f = refl
free_lists word (suc n) width (Ints zs ∷ us) f = ap (λ (t : List Datum). Ints zs ∷ t) (free_lists word n width us f.1)
free_lists word (suc n) width (u ∷ us) f = absurd f.0
free_lists word count width us f = absurd f

pub list_back : (us : List (List ℤ)) → map list_in (map Ints us) ≡ us
list_back [] = refl
list_back (u ∷ us) = ap (λ (t : List (List ℤ)). u ∷ t) (list_back us)

-- ---- rows one after another

pub rows_both : (rs more : List Row) (us vs : List Datum) → AllZip FitsRow rs us → AllZip FitsRow more vs → AllZip FitsRow (rs ++ more) (us ++ vs)
rows_both [] more [] vs p q = q
rows_both (r ∷ rs) more (u ∷ us) vs p q = (p.0, rows_both rs more us vs p.1 q)
rows_both rs more us vs p q = absurd p

pub rows_split : (rs more : List Row) (us vs : List Datum) → length us ≡ length rs → AllZip FitsRow (rs ++ more) (us ++ vs) → AllZip FitsRow rs us × AllZip FitsRow more vs
rows_split [] more [] vs e p = (tt, p)
rows_split (r ∷ rs) more (u ∷ us) vs e p = let rest = rows_split rs more us vs (omega (arith, e)) p.1 in ((p.0, rest.0), rest.1)
rows_split rs more us vs e p = absurd (omega (arith, e))

pub cut_rows : (rs more : List Row) (us : List Datum) → AllZip FitsRow (rs ++ more) us → (xs : List Datum) × (ys : List Datum) × (us ≡ xs ++ ys) × AllZip FitsRow rs xs × AllZip FitsRow more ys
cut_rows [] more us f = ([], us, refl, tt, f)
cut_rows (r ∷ rs) more [] f = absurd f
cut_rows (r ∷ rs) more (u ∷ us) f =
    let rest = cut_rows rs more us f.1 in
    (u ∷ rest.0, rest.1, ap (λ (t : List Datum). u ∷ t) rest.2, (f.0, rest.3), rest.4)

-- ---- a rank

abbrev dual_rows : ℕ → ℕ → List Row
dual_rows species rank = replicate rank (row (codes "dual") (FreeSeveral species))

abbrev comb_rows : ℕ → ℕ → List Row
comb_rows rank count = replicate count (row (codes "comb") (FreeSeveral (suc rank)))

abbrev below_base : RankProof → List Datum
below_base p = map Ints p.duals ++ map Ints p.combs

pub duals_long : (species rank : ℕ) (us : List (List ℤ)) → length us ≡ rank → length (map Ints us) ≡ length (dual_rows species rank)
duals_long species rank us e = length-map us Ints ∙ e ∙ sym (length-replicate rank (row (codes "dual") (FreeSeveral species)))

pub rank_long : (species rank : ℕ) (members : List ℕ) → length (rank_rows species rank members) ≡ suc (rank + (length members - rank))
rank_long species rank members =
    let n = length members - rank in
    ap suc (length-append (dual_rows species rank) (comb_rows rank n) ∙ ap₂ (λ (x y : ℕ). x + y) (length-replicate rank (row (codes "dual") (FreeSeveral species))) (length-replicate n (row (codes "comb") (FreeSeveral (suc rank)))))

pub below_long : (p : RankProof) → length (below_base p) ≡ length p.duals + length p.combs
below_long p = length-append (map Ints p.duals) (map Ints p.combs) ∙ ap₂ (λ (x y : ℕ). x + y) (length-map p.duals Ints) (length-map p.combs Ints)

pub ranks_there : (species : ℕ) (members : List ℕ) (rank : ℕ) (net : Net) (p : RankProof) → length p.duals ≡ rank → length net.names ≡ species
    → AllZip FitsRow (rank_rows species rank members) (rank_data p) → IsRankProof net members rank p
ranks_there species members rank net p e s f =
    let n = length members - rank in
    let cut = rows_split (dual_rows species rank) (comb_rows rank n) (map Ints p.duals) (map Ints p.combs) (duals_long species rank p.duals e) f.1 in
    record {
      long = f.0.0;
      ascending = f.0.1;
      from = f.0.2;
      duals = subst (λ (k : ℕ). AreFreeRows rank k p.duals) (sym s) (free_there (codes "dual") rank species p.duals cut.0);
      combs = free_there (codes "comb") n (suc rank) p.combs cut.1;
    }

pub ranks_back : (species : ℕ) (members : List ℕ) (rank : ℕ) (net : Net) (p : RankProof) → length net.names ≡ species → IsRankProof net members rank p
    → AllZip FitsRow (rank_rows species rank members) (rank_data p)
ranks_back species members rank net p s f =
    let n = length members - rank in
    let long = f.long in
    let up = f.ascending in
    let from = f.from in
    let duals = f.duals in
    let combs = f.combs in
    let d = subst (λ (k : ℕ). AreFreeRows rank k p.duals) s duals in (
      (long, up, from),
      rows_both (dual_rows species rank) (comb_rows rank n) (map Ints p.duals) (map Ints p.combs)
          (free_back (codes "dual") rank species p.duals d.long d.each) (free_back (codes "comb") n (suc rank) p.combs combs.long combs.each),
    )

abbrev proof_with : List ℕ → List (List ℤ) → List (List ℤ) → RankProof
proof_with base duals combs = record { base = record { list = base; spare = 0 }; duals = duals; combs = combs }

pub rank_again : (rank : ℕ) (p : RankProof) → length p.duals ≡ rank → rank_proof rank (rank_data p) ≡ tight_rank p
rank_again rank p e =
    let long : length (map Ints p.duals) ≡ rank = length-map p.duals Ints ∙ e in
    let first : map list_in (take rank (below_base p)) ≡ p.duals = ap (map list_in) (take_at (map Ints p.duals) (map Ints p.combs) rank long) ∙ list_back p.duals in
    let last : map list_in (drop rank (below_base p)) ≡ p.combs = ap (map list_in) (drop_at (map Ints p.duals) (map Ints p.combs) rank long) ∙ list_back p.combs in
    ap₂ (λ (us vs : List (List ℤ)). proof_with p.base.list us vs) first last

-- if the duals are the first records after the base, there are as many as the rank
first_counted : (rank n : ℕ) (ds : List Datum) (us : List (List ℤ)) → rank + n ≤ length ds → map list_in (take rank ds) ≡ us → length us ≡ rank
first_counted rank n ds us le e = sym (ap length e) ∙ length-map (take rank ds) list_in ∙ (let l = length-take rank ds in omega (arith, l, le))

pub duals_counted : (species rank : ℕ) (members : List ℕ) (p : RankProof) → AllZip FitsRow (rank_rows species rank members) (rank_data p) → map list_in (take rank (below_base p)) ≡ p.duals → length p.duals ≡ rank
duals_counted species rank members p f e =
    let long : length (rank_data p) ≡ suc (rank + (length members - rank)) = zip_long FitsRow (rank_rows species rank members) (rank_data p) f ∙ rank_long species rank members in
    first_counted rank (length members - rank) (below_base p) p.duals (omega (arith, long)) e

-- ---- the ranks of classes

abbrev class_count : Net → Earlier → (k d : ℕ) → ℕ
class_count net earlier k d = length (class_places net earlier k) - rank_in net earlier k d

pub classes_there : (net : Net) (earlier : Earlier) (k : ℕ) (ds : List ℕ) (ps : List RankProof) → AllZip FitsRow (class_rows net earlier k ds) (flat_map rank_data ps) → class_proofs net earlier k ds (flat_map rank_data ps) ≡ map tight_rank ps → AreClassProofs net earlier k ds ps
classes_there net earlier k [] [] f e = tt
classes_there net earlier k (d ∷ ds) (p ∷ ps) f e =
    (ranks_there s members r net p duals refl both.0, classes_there net earlier (suc k) ds ps both.1 (subst (λ (t : List Datum). class_proofs net earlier (suc k) ds t ≡ map tight_rank ps) (drop_at (below_base p) rest (r + n) whole) later))
  where
    s : ℕ
    s = length net.names

    members : List ℕ
    members = class_places net earlier k

    r : ℕ
    r = rank_in net earlier k d

    n : ℕ
    n = class_count net earlier k d

    rest : List Datum
    rest = flat_map rank_data ps

    y : List Datum
    y = take (r + n) (below_base p ++ rest)

    first : rank_proof r (Nums p.base.list ∷ y) ≡ tight_rank p
    first = cc

    later : class_proofs net earlier (suc k) ds (drop (r + n) (below_base p ++ rest)) ≡ map tight_rank ps
    later = cc

    enough : r + n ≤ length (below_base p ++ rest)
    enough =
        let long = zip_long FitsRow (rank_rows s r members ++ class_rows net earlier (suc k) ds) (rank_data p ++ rest) f in
        let more = length-append (rank_rows s r members) (class_rows net earlier (suc k) ds) in
        let one = rank_long s r members in
        omega (arith, long, more, one)

    y_long : length y ≡ r + n
    y_long = let l = length-take (r + n) (below_base p ++ rest) in omega (arith, l, enough)

    duals : length p.duals ≡ r
    duals = first_counted r n y p.duals (omega (arith, y_long)) (ap (λ (q : RankProof). q.duals) first)

    combs : length p.combs ≡ n
    combs = sym (ap (λ (q : RankProof). length q.combs) first) ∙ length-map (drop r y) list_in ∙ (let l = length-drop r y in omega (arith, l, y_long))

    whole : length (below_base p) ≡ r + n
    whole = below_long p ∙ ap₂ (λ (a b : ℕ). a + b) duals combs

    both : AllZip FitsRow (rank_rows s r members) (rank_data p) × AllZip FitsRow (class_rows net earlier (suc k) ds) rest
    both = rows_split (rank_rows s r members) (class_rows net earlier (suc k) ds) (rank_data p) rest (ap suc whole ∙ sym (rank_long s r members)) f
classes_there net earlier k ds ps f e = absurd cc

pub classes_back : (net : Net) (earlier : Earlier) (k : ℕ) (ds : List ℕ) (ps : List RankProof) → AreClassProofs net earlier k ds ps → AllZip FitsRow (class_rows net earlier k ds) (flat_map rank_data ps)
classes_back net earlier k [] [] f = tt
classes_back net earlier k (d ∷ ds) (p ∷ ps) f =
    rows_both (rank_rows (length net.names) (rank_in net earlier k d) (class_places net earlier k)) (class_rows net earlier (suc k) ds) (rank_data p) (flat_map rank_data ps)
    (ranks_back (length net.names) (class_places net earlier k) (rank_in net earlier k d) net p refl f.0) (classes_back net earlier (suc k) ds ps f.1)
classes_back net earlier k ds ps f = absurd f

pub classes_again : (net : Net) (earlier : Earlier) (k : ℕ) (ds : List ℕ) (ps : List RankProof) → AreClassProofs net earlier k ds ps → class_proofs net earlier k ds (flat_map rank_data ps) ≡ map tight_rank ps
classes_again net earlier k [] [] f = refl
classes_again net earlier k (d ∷ ds) (p ∷ ps) f =
    let r = rank_in net earlier k d in
    let n = class_count net earlier k d in
    let rest = flat_map rank_data ps in
    let whole : length (below_base p) ≡ r + n = below_long p ∙ (let a = (let x = f.0 in let y = x.duals in y.long) in let b = (let x = f.0 in let y = x.combs in y.long) in ap₂ (λ (a b : ℕ). a + b) a b) in
    let duals = (let x = f.0 in let y = x.duals in y.long) in
    let first : rank_proof r (Nums p.base.list ∷ take (r + n) (below_base p ++ rest)) ≡ tight_rank p = ap (λ (t : List Datum). rank_proof r (Nums p.base.list ∷ t)) (take_at (below_base p) rest (r + n) whole) ∙ rank_again r p duals in
    let later : class_proofs net earlier (suc k) ds (drop (r + n) (below_base p ++ rest)) ≡ map tight_rank ps = ap (λ (t : List Datum). class_proofs net earlier (suc k) ds t) (drop_at (below_base p) rest (r + n) whole) ∙ classes_again net earlier (suc k) ds ps f.1 in
    ap₂ (λ (x : RankProof) (xs : List RankProof). x ∷ xs) first later
classes_again net earlier k ds ps f = absurd f

-- ---- sides

pub sides_there : (c : ℕ) (net : Net) (pairs : List ℕ) (sides : List (List ℤ)) → length net.complexes ≡ c → AllZip FitsRow (map (λ r. row (codes "side") (Side r c)) pairs) (side_data pairs sides) → AreSides net pairs sides
sides_there c net [] [] e f = record { long = refl; each = tt }
sides_there c net [] (m ∷ sides) e f = absurd f
sides_there c net (r ∷ pairs) [] e f = absurd f.0
sides_there c net (r ∷ pairs) (m ∷ sides) e f =
    let more = sides_there c net pairs sides e f.1 in
    let long = more.long in
    let each = more.each in
    record { long = ap suc long; each = (subst (λ (k : ℕ). AreBits k m) (sym e) f.0.1, each) }

pub sides_back : (c : ℕ) (net : Net) (pairs : List ℕ) (sides : List (List ℤ)) → length net.complexes ≡ c → AreSides net pairs sides → AllZip FitsRow (map (λ r. row (codes "side") (Side r c)) pairs) (side_data pairs sides)
sides_back c net [] [] e f = tt
sides_back c net (r ∷ pairs) (m ∷ sides) e f =
    let long = f.long in
    let each = f.each in
    ((refl, subst (λ (k : ℕ). AreBits k m) e each.0), sides_back c net pairs sides e (record { long = omega (arith, long); each = each.1 }))
sides_back c net pairs sides e f = absurd (let l = f.long in omega (arith, l))

pub sides_again : (pairs : List ℕ) (sides : List (List ℤ)) → length sides ≡ length pairs → map list_in (side_data pairs sides) ≡ sides
sides_again [] [] e = refl
sides_again (r ∷ pairs) (m ∷ sides) e = ap (λ (t : List (List ℤ)). m ∷ t) (sides_again pairs sides (omega (arith, e)))
sides_again pairs sides e = absurd (omega (arith, e))
