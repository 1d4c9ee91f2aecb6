-- Ranks as records: those of a formed proof say it; so for each linkage class.
use Rattle.crn_ctext.proofs.Prelude.{◌≡◌, ◌≤◌, ◌<◌, ◌+◌, ◌-◌, ◌++◌, ◌∙◌, ℕ, suc, List, [], ◌∷◌, length, map, take, drop, refl, sym, ap, ap₂, subst, inl, inr, arith, ℤ, pos, codes, flat_map, range_with_len, append-nil, length-append, length-map, take_at, drop_at, IsIn, IsAscending, Net, class_members, eq_or, above_in, above_ascending, abs_back, RankProof, Earlier, AreFree, IsRankProof, AreClassProofs, rank_tests, linkage, class_places, class_rank_tests, class_ascending, Record, Fits, free_form, one_word, rank_records, lengths, lists, tight_rank}
use Rattle.std.proofs.Common.{◌≢◌}
use Rattle.std.proofs.Math.Numerals.{add-one}
use Rattle.crn_cert.specs.Tests.{Test}
use Rattle.crn_ctext.specs.Meaning.{rank_proof, class_proofs}

-- ---- records

pub record_is : (r : Record) (words : List (List ℕ)) (numbers : List ℤ) → r.words ≡ words → r.numbers ≡ numbers → r ≡ record { words = words; numbers = numbers }
record_is r words numbers w n = ap₂ (λ (ws : List (List ℕ)) (zs : List ℤ). record { words = ws; numbers = zs }) w n

-- ---- members

-- ascending members of an ascending list are no more than its own
no_more : (xs ys : List ℕ) → IsAscending xs → IsAscending ys → ((r : ℕ) → IsIn r xs → IsIn r ys) → length xs ≤ length ys
no_more [] ys a b h = omega arith
no_more (x ∷ xs) [] a b h = absurd (h x (inl refl))
no_more (x ∷ xs) (y ∷ ys) a b h = elim (eq_or x y) [
  | inl same ↦ let more = no_more xs ys (above_ascending x xs a) (above_ascending y ys b) (λ r i. later r (inr i) (let lt = above_in x xs a r i in omega (arith, same, lt))) in omega (arith, more)
  | inr other ↦ let more = no_more (x ∷ xs) ys a (above_ascending y ys b) (λ r i. later r i (past other r i)) in omega (arith, more)
]
  where
    later : (r : ℕ) → IsIn r (x ∷ xs) → y < r → IsIn r ys
    later r i lt = elim (h r i) [ inl e ↦ absurd (omega (arith, lt, e)) | inr j ↦ j ]

    first : x ≢ y → y < x
    first other = elim (h x (inl refl)) [ inl e ↦ absurd (other e) | inr j ↦ above_in y ys b x j ]

    past : x ≢ y → (r : ℕ) → IsIn r (x ∷ xs) → y < r
    past other r (inl e) = omega (arith, e, first other)
    past other r (inr i) = omega (arith, first other, above_in x xs a r i)

-- ---- rows of free numbers

pub free_fits : (word : List ℕ) (count : ℕ) (zs : List ℤ) → AreFree count zs → Fits (free_form word count) (one_word word zs)
free_fits word count zs p =
    let long = p.long in
    let each = p.each in
    (refl, (zs, [], sym (append-nil zs), (long, each), refl))

pub free_row : (word : List ℕ) (count : ℕ) (r : Record) → Fits (free_form word count) r → (r ≡ one_word word r.numbers) × AreFree count r.numbers
free_row word count r f =
    let p = f.1 in
    let all : p.0 ≡ r.numbers = sym (p.2 ∙ ap (λ (t : List ℤ). p.0 ++ t) p.4 ∙ append-nil p.0) in
    (record_is r (word ∷ []) r.numbers f.0 refl, subst (AreFree count) all (record { long = p.3.0; each = p.3.1 }))

-- ---- a rank

-- a proof of these lists
abbrev pub proof_with : List ℕ → List (List ℤ) → List (List ℤ) → RankProof
proof_with base duals combs = record { base = record { list = base; spare = 0 }; duals = duals; combs = combs }

lists_back : (us vs : List (List ℤ)) → lists (map (one_word (codes "dual")) us ++ map (one_word (codes "comb")) vs) ≡ us ++ vs
lists_back [] [] = refl
lists_back [] (v ∷ vs) = ap (λ (t : List (List ℤ)). v ∷ t) (lists_back [] vs)
lists_back (u ∷ us) vs = ap (λ (t : List (List ℤ)). u ∷ t) (lists_back us vs)

-- the records of a proof say it
pub rank_said : (rank : ℕ) (p : RankProof) → length p.duals ≡ rank → rank_proof rank (lists (rank_records p)) ≡ tight_rank p
rank_said rank p long =
    let rest = lists (map (one_word (codes "dual")) p.duals ++ map (one_word (codes "comb")) p.combs) in
    let all : rest ≡ p.duals ++ p.combs = lists_back p.duals p.combs in
    let duals : take rank rest ≡ p.duals = ap (λ (t : List (List ℤ)). take rank t) all ∙ take_at p.duals p.combs rank long in
    let combs : drop rank rest ≡ p.combs = ap (λ (t : List (List ℤ)). drop rank t) all ∙ drop_at p.duals p.combs rank long in
    ap (λ (xs : List ℕ). proof_with xs (take rank rest) (drop rank rest)) (abs_back p.base.list) ∙ ap₂ (λ (us vs : List (List ℤ)). proof_with p.base.list us vs) duals combs

-- a formed proof over ascending members has a record for each of them and one more
rank_counted : (net : Net) (members : List ℕ) (rank : ℕ) (p : RankProof) → IsAscending members → IsRankProof net members rank p → length (rank_records p) ≡ suc (length members)
rank_counted net members rank p up f =
    let long = f.long in
    let from = f.from in
    let rising = f.ascending in
    let d = f.duals in
    let c = f.combs in
    let duals = d.long in
    let combs = c.long in
    let few = no_more p.base.list members rising up from in
    let both = length-append (map (one_word (codes "dual")) p.duals) (map (one_word (codes "comb")) p.combs) in
    omega (arith, long, duals, combs, few, both, length-map p.duals (one_word (codes "dual")), length-map p.combs (one_word (codes "comb")))

-- ---- the linkage classes from one on

-- the reactions of so many classes, and how many complexes each has
abbrev pub places_from : Net → Earlier → ℕ → ℕ → List (List ℕ)
places_from net earlier k n = map (λ j. class_places net earlier j) (range_with_len k n)

abbrev pub sizes_from : Earlier → ℕ → ℕ → List ℕ
sizes_from earlier k n = lengths (map (λ j. class_members (linkage earlier) j) (range_with_len k n))

next : (k : ℕ) → suc k ≡ k + 1
next k = sym (add-one k)

-- the rank that the class has by its deficiency
abbrev rank_at : Earlier → ℕ → ℕ → ℕ
rank_at earlier k d = length (class_members (linkage earlier) k) - 1 - d

abbrev proofs_from : Net → Earlier → ℕ → List ℕ → List Record → List RankProof
proofs_from net earlier k ds rs = class_proofs (sizes_from earlier k (length ds)) (places_from net earlier k (length ds)) (map pos ds) rs

pub classes_said : (net : Net) (earlier : Earlier) (k : ℕ) (ds : List ℕ) (ps : List RankProof) → AreClassProofs net earlier k ds ps → proofs_from net earlier k ds (flat_map rank_records ps) ≡ map tight_rank ps
classes_said net earlier k [] [] f = refl
classes_said net earlier k (d ∷ ds) (p ∷ ps) f =
    let members = class_places net earlier k in
    let rank = rank_at earlier k d in
    let rest = flat_map rank_records ps in
    let g = f.0 in
    let gd = g.duals in
    let duals = gd.long in
    let long : length (rank_records p) ≡ suc (length members) = rank_counted net members rank p (class_ascending net earlier k) g in
    let prefix : take (suc (length members)) (rank_records p ++ rest) ≡ rank_records p = take_at (rank_records p) rest (suc (length members)) long in
    let back : drop (suc (length members)) (rank_records p ++ rest) ≡ rest = drop_at (rank_records p) rest (suc (length members)) long in
    let one : rank_proof rank (lists (take (suc (length members)) (rank_records p ++ rest))) ≡ tight_rank p = ap (λ (rs : List Record). rank_proof rank (lists rs)) prefix ∙ rank_said rank p duals in
    let more : proofs_from net earlier (k + 1) ds (drop (suc (length members)) (rank_records p ++ rest)) ≡ map tight_rank ps = ap (λ (rs : List Record). proofs_from net earlier (k + 1) ds rs) back
    ∙ subst (λ (j : ℕ). proofs_from net earlier j ds rest ≡ map tight_rank ps) (next k) (classes_said net earlier (suc k) ds ps f.1) in
    ap₂ (λ (x : RankProof) (xs : List RankProof). x ∷ xs) one more
classes_said net earlier k ds ps f = absurd f

pub said_again : (ps : List RankProof) → map tight_rank (map tight_rank ps) ≡ map tight_rank ps
said_again [] = refl
said_again (p ∷ ps) = ap (λ (t : List RankProof). tight_rank p ∷ t) (said_again ps)

-- the tests of proofs do not see spares
pub tests_said : (net : Net) (earlier : Earlier) (part k : ℕ) (ps : List RankProof) → class_rank_tests net earlier part k (map tight_rank ps) ≡ class_rank_tests net earlier part k ps
tests_said net earlier part k [] = refl
tests_said net earlier part k (p ∷ ps) = ap (λ (ts : List {1} Test). rank_tests net (class_places net earlier k) part p.base.list p.duals p.combs ++ ts) (tests_said net earlier (part + 1 + length p.duals + length p.combs) (suc k) ps)
