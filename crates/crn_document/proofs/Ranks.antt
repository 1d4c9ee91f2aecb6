-- The records that prove ranks: their forms, the proofs that they are, and the places of their tests.
use Rattle.crn_document.proofs.Prelude.{◌≡◌, ◌≤◌, ◌<◌, ◌+◌, ◌-◌, ◌++◌, ◌∙◌, ℕ, zero, suc, Bool, true, false, cond, ◌==◌, List, [], ◌∷◌, length, map, take, drop, replicate, refl, sym, subst, ap, ap₂, append_assoc, arith, ℤ, pos, codes, nat_abs, min, slice_index_or, AllByRecursion, AllZip, range_with_len, flat_map, length-map, map-append, length-replicate, length-append, drop-take, drop-drop, IsIn, IsAscending, KeptNums, Net, class_members, MAX_COMPLEXES, MAX_REACTIONS, abs_back, all_in, zip_long, RankProof, Earlier, Test, AreFree, AreFreeRows, rank_tests, dual_tests, comb_tests, IsRankProof, AreClassProofs, linkage, class_places, class_rank_tests, AreClassNumbers, Record, Form, Fits, Free, Members, record_form, free_form, Sizes, rank_forms, class_forms, lists, lengths, nums, rank_proof, class_proofs, Part, Row, Dual, Comb, AreSmall, part_proofs, FitParts, class_part, class_parts, members_of, part_rows, row_form, take-map, drop-map}
use Rattle.crn_document.proofs.Linkages.{member_few}
use Rattle.crn_document.proofs.Fields.{PartsWithin, one_field}

-- ---- lists of records in two parts

zip_prefix : (xs ys : List Form) (rs : List Record) → AllZip Fits (xs ++ ys) rs → AllZip Fits xs (take (length xs) rs)
zip_prefix [] ys [] z = tt
zip_prefix [] ys (r ∷ rs) z = tt
zip_prefix (x ∷ xs) ys [] z = absurd z
zip_prefix (x ∷ xs) ys (r ∷ rs) z = (z.0, zip_prefix xs ys rs z.1)

zip_back : (xs ys : List Form) (rs : List Record) → AllZip Fits (xs ++ ys) rs → AllZip Fits ys (drop (length xs) rs)
zip_back [] ys [] z = z
zip_back [] ys (r ∷ rs) z = z
zip_back (x ∷ xs) ys [] z = absurd z
zip_back (x ∷ xs) ys (r ∷ rs) z = zip_back xs ys rs z.1

pub lists_take : (n : ℕ) (rs : List Record) → lists (take n rs) ≡ take n (lists rs)
lists_take n rs = sym (take-map (λ (r : Record). r.numbers) n rs)

pub lists_drop : (n : ℕ) (rs : List Record) → lists (drop n rs) ≡ drop n (lists rs)
lists_drop n rs = sym (drop-map (λ (r : Record). r.numbers) n rs)

pub map_replicate : {A B : Type 0} (f : A → B) (n : ℕ) (x : A) → map f (replicate n x) ≡ replicate n (f x)
map_replicate f zero x = refl
map_replicate f (suc n) x = ap (λ (t : List _). f x ∷ t) (map_replicate f n x)

-- ---- pieces of lists

replicate_next : {A : Type 0} (n : ℕ) (x : A) → (n ≡ 0 → ⊥) → replicate n x ≡ x ∷ replicate (n - 1) x
replicate_next zero x some = absurd (some refl)
replicate_next (suc n) x some = let m : n ≡ suc n - 1 = omega arith in ap (λ (k : ℕ). x ∷ replicate k x) m

-- one of several, and then the others
pub times_push : {A : Type 0} (n : ℕ) (x : A) (old mid new : List A) → (n ≡ 0 → ⊥) → mid ≡ old ++ x ∷ [] → new ≡ mid ++ replicate (n - 1) x → new ≡ old ++ replicate n x
times_push n x old mid new some m e =
    e ∙ ap (λ (t : List _). t ++ replicate (n - 1) x) m ∙ append_assoc old (x ∷ []) (replicate (n - 1) x) ∙ ap (λ (t : List _). old ++ t) (sym (replicate_next n x some))

pub drop_none : {A : Type 0} (xs : List A) → drop 0 xs ≡ xs
drop_none [] = refl
drop_none (x ∷ xs) = refl

take_less : {A : Type 0} (n m : ℕ) (xs : List A) → n ≤ m → take n (take m xs) ≡ take n xs
take_less zero zero [] le = refl
take_less zero zero (x ∷ xs) le = refl
take_less zero (suc m) [] le = refl
take_less (suc n) zero xs le = absurd (omega (arith, le))
take_less (suc n) (suc m) (x ∷ xs) le = ap (λ (t : List _). x ∷ t) (take_less n m xs (omega (arith, le)))
take_less n (suc m) xs le = refl

-- the list from one of its members on
piece_next : (rows : List (List ℤ)) (i k : ℕ) → i < length rows → take (suc k) (drop i rows) ≡ slice_index_or rows i [] ∷ take k (drop (suc i) rows)
piece_next [] i k lt = absurd (omega (arith, lt))
piece_next (r ∷ rs) zero k lt = ap (λ (t : List (List ℤ)). r ∷ take k t) (sym (drop_none rs))
piece_next (r ∷ rs) (suc i) k lt = piece_next rs i k (omega (arith, lt))

-- one row of several, and then the others
pub rows_push : (rows : List (List ℤ)) (i stop : ℕ) (row : List ℤ) (old mid new : List (List ℤ)) → (i ≡ stop → ⊥) → i ≤ stop → stop ≤ length rows → row ≡ slice_index_or rows i [] → mid ≡ old ++ row ∷ [] → new ≡ mid ++ take (stop - (i + 1)) (drop (i + 1) rows) → new ≡ old ++ take (stop - i) (drop i rows)
rows_push rows i stop row old mid new differs le inside is m e =
    let k = stop - (i + 1) in
    let next : i + 1 ≡ suc i = omega arith in
    let lt : i < length rows = omega (arith, differs, le, inside) in
    let more : suc k ≡ stop - i = omega (arith, differs, le) in
    e ∙ ap₂ (λ (t : List (List ℤ)) (j : ℕ). t ++ take k (drop j rows)) m next ∙ append_assoc old (row ∷ []) (take k (drop (suc i) rows))
    ∙ ap (λ (r : List ℤ). old ++ r ∷ take k (drop (suc i) rows)) is
    ∙ ap (λ (t : List (List ℤ)). old ++ t) (sym (piece_next rows i k lt))
    ∙ ap (λ (j : ℕ). old ++ take j (drop i rows)) more

-- a base, duals and combinations, which come one after another
pub rank_pieces : (rows : List (List ℤ)) (i rank middle stop : ℕ) (made : RankProof) → middle ≡ i + 1 + rank → middle ≤ stop → stop ≤ length rows
    → made.base ≡ nums (slice_index_or rows i []) → made.duals ≡ take (middle - (i + 1)) (drop (i + 1) rows) → made.combs ≡ take (stop - middle) (drop middle rows)
    → made ≡ rank_proof rank (take (stop - i) (drop i rows))
rank_pieces rows i rank middle stop made mid le inside base duals combs =
    let k = stop - (i + 1) in
    let next : i + 1 ≡ suc i = omega arith in
    let more : suc k ≡ stop - i = omega (arith, mid, le) in
    let later = drop (suc i) rows in
    let all : take (stop - i) (drop i rows) ≡ slice_index_or rows i [] ∷ take k later = ap (λ (j : ℕ). take j (drop i rows)) (sym more) ∙ piece_next rows i k (omega (arith, mid, le, inside)) in
    let long : middle - (i + 1) ≡ rank = omega (arith, mid) in
    let few : rank ≤ k = omega (arith, mid, le) in
    let sum : rank + (stop - middle) ≡ k = omega (arith, mid, le) in
    let place : suc i + rank ≡ middle = omega (arith, mid) in
    let prefix : made.duals ≡ take rank (drop 1 (slice_index_or rows i [] ∷ take k later)) =
    duals ∙ ap₂ (λ (n j : ℕ). take n (drop j rows)) long next ∙ sym (take_less rank k later few) ∙ ap (λ (t : List (List ℤ)). take rank t) (sym (drop_none (take k later))) in
    let back : made.combs ≡ drop rank (take k later) =
    combs ∙ ap (λ (j : ℕ). take (stop - middle) (drop j rows)) (sym place) ∙ ap (λ (t : List (List ℤ)). take (stop - middle) t) (sym (drop-drop rank (suc i) rows))
    ∙ sym (drop-take rank (stop - middle) later) ∙ ap (λ (j : ℕ). drop rank (take j later)) sum in
    proof_is made (nums (slice_index_or rows i [])) _ _ base prefix back ∙ ap (λ (t : List (List ℤ)). rank_proof rank t) (sym all)
  where
    proof_is : (made : RankProof) (b : KeptNums) (d c : List (List ℤ)) → made.base ≡ b → made.duals ≡ d → made.combs ≡ c → made ≡ record { base = b; duals = d; combs = c }
    proof_is made b d c x y z = ap₂ (λ (b : KeptNums) (p : List (List ℤ) × List (List ℤ)). record { base = b; duals = p.0; combs = p.1 }) x (ap₂ (λ (d c : List (List ℤ)). (d, c)) y z)

-- ---- numbers of records

pub free_row : (word : List ℕ) (count : ℕ) (r : Record) → Fits (free_form word count) r → AreFree count r.numbers
free_row word count r f = let p = one_field (Free count) r.numbers f.1 in record { long = p.0; each = p.1 }

pub free_rows : (word : List ℕ) (count n : ℕ) (rs : List Record) → AllZip Fits (replicate n (free_form word count)) rs → AreFreeRows n count (lists rs)
free_rows word count zero [] z = record { long = refl; each = tt }
free_rows word count (suc n) (r ∷ rs) z =
    let more = free_rows word count n rs z.1 in
    record { long = ap (λ (k : ℕ). suc k) more.long; each = (free_row word count r z.0, more.each) }
free_rows word count n rs z = absurd z

all_small : (members ns : List ℕ) → ((n : ℕ) → IsIn n members → n ≤ MAX_REACTIONS) → AllByRecursion (λ n. IsIn n members) ns → AreSmall (map pos ns)
all_small members [] few a = tt
all_small members (n ∷ ns) few a = (let l = few n a.0 in omega (arith, l), all_small members ns few a.1)

-- what a base says
pub record IsBase (rank : ℕ) (members : List ℕ) (zs : List ℤ) : Type 0 where
  pub long : length (map nat_abs zs) ≡ rank
  pub ascending : IsAscending (map nat_abs zs)
  pub from : (r : ℕ) → IsIn r (map nat_abs zs) → IsIn r members
  pub small : ((n : ℕ) → IsIn n members → n ≤ MAX_REACTIONS) → AreSmall zs

pub base_row : (rank : ℕ) (members : List ℕ) (r : Record) → Fits (record_form (codes "base") (Members rank members ∷ [])) r → IsBase rank members r.numbers
base_row rank members r f =
    let p = one_field (Members rank members) r.numbers f.1 in
    let t = p.0 in
    let ns = t.0 in
    let same : map nat_abs r.numbers ≡ ns = ap (λ (zs : List ℤ). map nat_abs zs) t.1 ∙ abs_back ns in record {
      long = ap (λ (xs : List ℕ). length xs) same ∙ t.2;
      ascending = subst IsAscending (sym same) t.3;
      from = λ x i. all_in (λ n. IsIn n members) ns x t.4 (subst (λ (xs : List ℕ). IsIn x xs) same i);
      small = λ few. subst AreSmall (sym t.1) (all_small members ns few t.4);
    }

-- ---- one rank

pub rank_length : (z : Sizes) (rank : ℕ) (members : List ℕ) → rank ≤ length members → length (rank_forms z rank members) ≡ suc (length members)
rank_length z rank members le =
    let duals = length-replicate rank (free_form (codes "dual") z.species) in
    let combs = length-replicate (length members - rank) (free_form (codes "comb") (1 + rank)) in
    let all = length-append (replicate rank (free_form (codes "dual") z.species)) (replicate (length members - rank) (free_form (codes "comb") (1 + rank))) in
    omega (arith, le, duals, combs, all)

pub rank_formed : (net : Net) (z : Sizes) (rank : ℕ) (members : List ℕ) (rs : List Record) → z.species ≡ length net.names → AllZip Fits (rank_forms z rank members) rs → IsRankProof net members rank (rank_proof rank (lists rs))
rank_formed net z rank members [] s f = absurd f
rank_formed net z rank members (r ∷ rs) s f =
    let dual = free_form (codes "dual") z.species in
    let comb = free_form (codes "comb") (1 + rank) in
    let base = base_row rank members r f.0 in
    let one : 1 + rank ≡ suc rank = omega arith in
    let count : length (replicate rank dual) ≡ rank = length-replicate rank dual in
    let prefix : AllZip Fits (replicate rank dual) (take rank rs) = subst (λ (k : ℕ). AllZip Fits (replicate rank dual) (take k rs)) count (zip_prefix (replicate rank dual) (replicate (length members - rank) comb) rs f.1) in
    let back : AllZip Fits (replicate (length members - rank) comb) (drop rank rs) = subst (λ (k : ℕ). AllZip Fits (replicate (length members - rank) comb) (drop k rs)) count (zip_back (replicate rank dual) (replicate (length members - rank) comb) rs f.1) in
    record {
      long = base.long;
      ascending = base.ascending;
      from = base.from;
      duals = subst (λ (k : ℕ). AreFreeRows rank k (take rank (lists rs))) s (subst (λ (x : List (List ℤ)). AreFreeRows rank z.species x) (lists_take rank rs) (free_rows (codes "dual") z.species rank (take rank rs) prefix));
      combs = subst (λ (x : List (List ℤ)). AreFreeRows (length members - rank) (suc rank) x) (lists_drop rank rs) (subst (λ (k : ℕ). AreFreeRows (length members - rank) k (lists (drop rank rs))) one (free_rows (codes "comb") (1 + rank) (length members - rank) (drop rank rs) back));
    }

-- the first record of a rank is of small numbers
pub rank_small : (z : Sizes) (rank : ℕ) (members : List ℕ) (rs : List Record) → ((n : ℕ) → IsIn n members → n ≤ MAX_REACTIONS) → AllZip Fits (rank_forms z rank members) rs → AreSmall (slice_index_or (lists rs) 0 [])
rank_small z rank members [] few f = absurd f
rank_small z rank members (r ∷ rs) few f = let base = base_row rank members r f.0 in let s = base.small in s few

pub rank_rows_are : (net : Net) (labels : List ℕ) (c : ℕ) (z : Sizes) (p : Part) (members : List ℕ) → z.species ≡ length net.names → members ≡ members_of net labels p.class → p.count ≡ length members → rank_forms z p.rank members ≡ map (row_form net labels c) (part_rows p)
rank_rows_are net labels c z p members s m n =
    let f : Row → Form = row_form net labels c in
    let prefix = ap (λ (k : ℕ). replicate p.rank (free_form (codes "dual") k)) s ∙ sym (map_replicate f p.rank Dual) in
    let back = ap (λ (k : ℕ). replicate (k - p.rank) (free_form (codes "comb") (1 + p.rank))) (sym n) ∙ sym (map_replicate f (p.count - p.rank) (Comb p.rank)) in
    ap₂ (λ (x : Form) (t : List Form). x ∷ t) (ap (λ (ms : List ℕ). record_form (codes "base") (Members p.rank ms ∷ [])) m) (ap₂ (λ (x y : List Form). x ++ y) prefix back ∙ sym (map-append f (replicate p.rank Dual) (replicate (p.count - p.rank) (Comb p.rank))))

-- ---- the ranks of the classes

-- the numbers of complexes, and the reactions, of so many classes from this one on
abbrev pub sizes_from : Earlier → ℕ → ℕ → List ℕ
sizes_from earlier k zero = []
sizes_from earlier k (suc n) = length (class_members (linkage earlier) k) ∷ sizes_from earlier (suc k) n

abbrev pub members_from : Net → Earlier → ℕ → ℕ → List (List ℕ)
members_from net earlier k zero = []
members_from net earlier k (suc n) = class_places net earlier k ∷ members_from net earlier (suc k) n

pub sizes_are : (earlier : Earlier) (k n : ℕ) → lengths (map (λ j. class_members (linkage earlier) j) (range_with_len k n)) ≡ sizes_from earlier k n
sizes_are earlier k zero = refl
sizes_are earlier k (suc n) =
    let m : k + 1 ≡ suc k = omega arith in
    ap (λ (t : List ℕ). length (class_members (linkage earlier) k) ∷ t) (sizes_are earlier (k + 1) n ∙ ap (λ (i : ℕ). sizes_from earlier i n) m)

pub members_are : (net : Net) (earlier : Earlier) (k n : ℕ) → map (λ j. class_places net earlier j) (range_with_len k n) ≡ members_from net earlier k n
members_are net earlier k zero = refl
members_are net earlier k (suc n) =
    let m : k + 1 ≡ suc k = omega arith in
    ap (λ (t : List (List ℕ)). class_places net earlier k ∷ t) (members_are net earlier (k + 1) n ∙ ap (λ (i : ℕ). members_from net earlier i n) m)

abbrev pub forms_from : Net → Earlier → Sizes → ℕ → List ℤ → List Form
forms_from net earlier z k ds = class_forms z (sizes_from earlier k (length ds)) (members_from net earlier k (length ds)) ds

abbrev pub proofs_from : Net → Earlier → ℕ → List ℤ → List Record → List RankProof
proofs_from net earlier k ds rs = class_proofs (sizes_from earlier k (length ds)) (members_from net earlier k (length ds)) ds rs

pub class_rows_are : (net : Net) (earlier : Earlier) (c : ℕ) (z : Sizes) (j : ℕ) (ds : List ℤ) → z.species ≡ length net.names → forms_from net earlier z (suc j) ds ≡ map (row_form net (linkage earlier) c) (flat_map part_rows (class_parts net (linkage earlier) (suc j) ds))
class_rows_are net earlier c z j [] s = refl
class_rows_are net earlier c z j (d ∷ ds) s =
    let labels = linkage earlier in
    let p = class_part net labels (suc j) (nat_abs d) in
    ap₂ (λ (x y : List Form). x ++ y) (rank_rows_are net labels c z p (class_places net earlier (suc j)) s refl refl) (class_rows_are net earlier c z (suc j) ds s)
    ∙ sym (map-append (row_form net labels c) (part_rows p) (flat_map part_rows (class_parts net labels (suc (suc j)) ds)))

pub class_proofs_are : (net : Net) (earlier : Earlier) (j : ℕ) (ds : List ℤ) (rs : List Record) → part_proofs (class_parts net (linkage earlier) (suc j) ds) (lists rs) ≡ proofs_from net earlier (suc j) ds rs
class_proofs_are net earlier j [] rs = refl
class_proofs_are net earlier j (d ∷ ds) rs =
    let p = class_part net (linkage earlier) (suc j) (nat_abs d) in
    ap₂ (λ (x : RankProof) (t : List RankProof). x ∷ t) (ap (λ (x : List (List ℤ)). rank_proof p.rank x) (sym (lists_take (suc p.count) rs)))
    (ap (λ (x : List (List ℤ)). part_proofs (class_parts net (linkage earlier) (suc (suc j)) ds) x) (sym (lists_drop (suc p.count) rs)) ∙ class_proofs_are net earlier (suc j) ds (drop (suc p.count) rs))

rank_within : (d c n m : ℕ) → d + 2 ≤ c → c ≤ d + 1 + min n m → c - 1 - d ≤ m
rank_within d c n m a b = omega (arith, a, b)

pub class_fit : (net : Net) (earlier : Earlier) (z : Sizes) (j : ℕ) (ds : List ℤ) (rs : List Record) → length net.reactions ≤ MAX_REACTIONS → AreClassNumbers net earlier (suc j) (map nat_abs ds) → AllZip Fits (forms_from net earlier z (suc j) ds) rs → FitParts (class_parts net (linkage earlier) (suc j) ds) (lists rs)
class_fit net earlier z j [] [] few n f = refl
class_fit net earlier z j [] (r ∷ rs) few n f = absurd f
class_fit net earlier z j (d ∷ ds) rs few n f =
    let labels = linkage earlier in
    let p = class_part net labels (suc j) (nat_abs d) in
    let members = class_places net earlier (suc j) in
    let forms = rank_forms z p.rank members in
    let more = forms_from net earlier z (suc (suc j)) ds in
    let le : p.rank ≤ p.count = rank_within (nat_abs d) (length (class_members labels (suc j))) (length net.names) p.count n.0.0 n.0.1 in
    let long : length forms ≡ suc p.count = rank_length z p.rank members le in
    let all = zip_long (forms ++ more) rs f in
    let sum = length-append forms more in
    let prefix : AllZip Fits forms (take (suc p.count) rs) = subst (λ (k : ℕ). AllZip Fits forms (take k rs)) long (zip_prefix forms more rs f) in
    let back : AllZip Fits more (drop (suc p.count) rs) = subst (λ (k : ℕ). AllZip Fits more (drop k rs)) long (zip_back forms more rs f) in
    let count = length-map rs (λ (r : Record). r.numbers) in
    let enough : suc p.count ≤ length (lists rs) = omega (arith, long, all, sum, count) in
    let small : AreSmall (slice_index_or (lists (take (suc p.count) rs)) 0 []) = rank_small z p.rank members (take (suc p.count) rs) (λ x i. let l = member_few net labels (suc j) x i in omega (arith, l, few)) prefix in (
      enough,
      le,
      subst AreSmall (first_taken p.count (lists rs)) (subst (λ (x : List (List ℤ)). AreSmall (slice_index_or x 0 [])) (lists_take (suc p.count) rs) small),
      subst (λ (x : List (List ℤ)). FitParts (class_parts net labels (suc (suc j)) ds) x) (lists_drop (suc p.count) rs) (class_fit net earlier z (suc j) ds (drop (suc p.count) rs) few n.1 back),
    )
  where
    first_taken : (k : ℕ) (xs : List (List ℤ)) → slice_index_or (take (suc k) xs) 0 [] ≡ slice_index_or xs 0 []
    first_taken k [] = refl
    first_taken k (x ∷ xs) = refl

pub class_formed : (net : Net) (earlier : Earlier) (z : Sizes) (j : ℕ) (ds : List ℤ) (rs : List Record) → z.species ≡ length net.names → AreClassNumbers net earlier (suc j) (map nat_abs ds) → AllZip Fits (forms_from net earlier z (suc j) ds) rs → AreClassProofs net earlier (suc j) (map nat_abs ds) (proofs_from net earlier (suc j) ds rs)
class_formed net earlier z j [] rs s n f = tt
class_formed net earlier z j (d ∷ ds) rs s n f =
    let labels = linkage earlier in
    let p = class_part net labels (suc j) (nat_abs d) in
    let members = class_places net earlier (suc j) in
    let forms = rank_forms z p.rank members in
    let more = forms_from net earlier z (suc (suc j)) ds in
    let le : p.rank ≤ p.count = rank_within (nat_abs d) (length (class_members labels (suc j))) (length net.names) p.count n.0.0 n.0.1 in
    let long : length forms ≡ suc p.count = rank_length z p.rank members le in
    let prefix : AllZip Fits forms (take (suc p.count) rs) = subst (λ (k : ℕ). AllZip Fits forms (take k rs)) long (zip_prefix forms more rs f) in
    let back : AllZip Fits more (drop (suc p.count) rs) = subst (λ (k : ℕ). AllZip Fits more (drop k rs)) long (zip_back forms more rs f) in
    (rank_formed net z p.rank members (take (suc p.count) rs) s prefix, class_formed net earlier z (suc j) ds (drop (suc p.count) rs) s n.1 back)

-- ---- the places of the tests

parts_join : (k : ℕ) (xs ys : List {1} Test) → PartsWithin k xs → PartsWithin k ys → PartsWithin k (xs ++ ys)
parts_join k [] ys p q = q
parts_join k (x ∷ xs) ys p q = (p.0, parts_join k xs ys p.1 q)

dual_parts : (vs : List (List ℤ)) (part i k : ℕ) (duals : List (List ℤ)) → part + length duals ≤ suc k → PartsWithin k (dual_tests vs part i duals)
dual_parts vs part i k [] le = tt
dual_parts vs part i k (d ∷ ds) le = (omega (arith, le), dual_parts vs (suc part) (suc i) k ds (omega (arith, le)))

comb_parts : (net : Net) (vs : List (List ℤ)) (part k : ℕ) (rs : List ℕ) (combs : List (List ℤ)) → part + length combs ≤ k → PartsWithin k (comb_tests net vs part rs combs)
comb_parts net vs part k [] combs le = tt
comb_parts net vs part k (r ∷ rs) [] le = (omega (arith, le), tt)
comb_parts net vs part k (r ∷ rs) (c ∷ cs) le = (omega (arith, le), comb_parts net vs (suc part) k rs cs (omega (arith, le)))

pub rank_parts : (net : Net) (members : List ℕ) (part k rank : ℕ) (proof : RankProof) → IsRankProof net members rank proof → part + 1 + rank + (length members - rank) ≤ k → PartsWithin k (rank_tests net members part proof.base.list proof.duals proof.combs)
rank_parts net members part k rank proof p le =
    let b = p.long in
    let d = p.duals.long in
    let c = p.combs.long in
    parts_join k _ _ (dual_parts _ (part + 1) 0 k proof.duals (omega (arith, le, d))) (comb_parts net _ (part + 1 + length proof.base.list) k _ proof.combs (omega (arith, le, b, c)))

pub class_parts_within : (net : Net) (earlier : Earlier) (part k j : ℕ) (z : Sizes) (ds : List ℤ) (proofs : List RankProof) → AreClassNumbers net earlier (suc j) (map nat_abs ds) → AreClassProofs net earlier (suc j) (map nat_abs ds) proofs → part + length (forms_from net earlier z (suc j) ds) ≤ k → PartsWithin k (class_rank_tests net earlier part (suc j) proofs)
class_parts_within net earlier part k j z [] [] n a le = tt
class_parts_within net earlier part k j z (d ∷ ds) (proof ∷ proofs) n a le =
    let labels = linkage earlier in
    let p = class_part net labels (suc j) (nat_abs d) in
    let members = class_places net earlier (suc j) in
    let forms = rank_forms z p.rank members in
    let more = forms_from net earlier z (suc (suc j)) ds in
    let within : p.rank ≤ p.count = rank_within (nat_abs d) (length (class_members labels (suc j))) (length net.names) p.count n.0.0 n.0.1 in
    let long : length forms ≡ suc p.count = rank_length z p.rank members within in
    let sum : length (forms_from net earlier z (suc j) (d ∷ ds)) ≡ length forms + length more = length-append forms more in
    let duals = a.0.duals.long in
    let combs = a.0.combs.long in
    parts_join k _ _ (rank_parts net members part k p.rank proof a.0 (omega (arith, le, long, sum, within)))
    (class_parts_within net earlier (part + 1 + length proof.duals + length proof.combs) k (suc j) z ds proofs n.1 a.1 (omega (arith, le, long, sum, within, duals, combs)))
class_parts_within net earlier part k j z ds proofs n a le = absurd a

-- ---- ranks are few

abbrev pub AreRanks : List Part → Type 0
AreRanks parts = AllByRecursion (λ p. p.rank ≤ MAX_REACTIONS) parts

members_le : (labels : List ℕ) (k : ℕ) → length (class_members labels k) ≤ length labels
members_le [] k = omega arith
members_le (l ∷ ls) k = by (l == k) (members_le ls k)
  where
    by : (b : Bool) → length (class_members ls k) ≤ length ls → length (cond b (l ∷ class_members ls k) (class_members ls k)) ≤ length (l ∷ ls)
    by true le = omega (arith, le)
    by false le = omega (arith, le)

pub class_ranks : (net : Net) (labels : List ℕ) (k : ℕ) (ds : List ℤ) → length labels ≤ MAX_COMPLEXES → AreRanks (class_parts net labels k ds)
class_ranks net labels k [] le = tt
class_ranks net labels k (d ∷ ds) le = ((let m = members_le labels k in omega (arith, m, le)), class_ranks net labels (suc k) ds le)
