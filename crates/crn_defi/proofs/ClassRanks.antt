-- The ranks and deficiencies of the linkage classes, one after another.
use Rattle.crn_defi.proofs.Prelude.{◌≡◌, ℕ, zero, suc, ◌+◌, ◌-◌, ◌<◌, ◌≤◌, ◌==◌, List, [], ◌∷◌, ◌++◌, length, get_or, ap, subst, arith, ℤ, min, AllByRecursion, Net, IsNetwork, IsRank, IsLabelled, class_reactions, class_vectors, class_members, IsClassDeficiency, RankProof, Earlier, IsFrom, AllHold, rank_tests, Mat, NamesWide, class_system, filter_few, AreMembers, member_matrix, ProvesRank, IsRankProof, IsClassProof, AreClassProofs, linkage, class_places, IsClassNumber, class_rank_tests, hold_append, reactions_of, IsClass, IsClassRank, AreClassRanks, rank_from}
use Rattle.crn_cert.specs.Valid.{AreClassNumbers}
use Rattle.crn_defi.proofs.Places.{class_reaction, class_some, vectors_are, reactions_count, reactions_ascend, reactions_inside}
use Rattle.crn_defi.proofs.Counted.{class_rank_leaves}

-- ---- one class

pub class_members_are : (net : Net) (labels : List ℕ) (k : ℕ) → AreMembers net (reactions_of net labels k)
class_members_are net labels k = record { ascending = reactions_ascend net labels k; each = reactions_inside net labels k }

-- a proof of the rank of a class leaves one of its complexes
pub proof_leaves : (net : Net) (labels : List ℕ) (k : ℕ) (proof : RankProof) → IsNetwork net → IsLabelled net labels → IsClass labels k → ProvesRank net (reactions_of net labels k) proof → 1 + length proof.base.list ≤ length (class_members labels k)
proof_leaves net labels k proof n l c h = class_rank_leaves net labels k (length proof.base.list) n l c (subst (λ (vs : List (List ℤ)). IsRank vs (length proof.base.list)) (vectors_are net labels k) h.rank)

-- a wide vector of the matrix of a class's reactions is one of its system
pub class_wide : (net : Net) (labels : List ℕ) (k index : ℕ) (basis : List ℕ) → NamesWide (member_matrix net (reactions_of net labels k)) index basis → NamesWide (class_system net labels k) index basis
class_wide net labels k index basis h =
    let same : member_matrix net (reactions_of net labels k) ≡ class_system net labels k = ap (λ (rows : List (List ℤ)). let a : Mat = record { cols = length net.names; rows = rows } in a) (vectors_are net labels k) in
    subst (λ (a : Mat). NamesWide a index basis) same h

-- the rank of a class
pub class_rank_is : (net : Net) (labels : List ℕ) (k d : ℕ) (proof : RankProof) → IsClassRank net labels k d proof → IsRank (class_vectors net labels k) (length proof.base.list)
class_rank_is net labels k d proof h = subst (λ (vs : List (List ℤ)). IsRank vs (length proof.base.list)) (vectors_are net labels k) h.proves.rank

class_proof : (net : Net) (earlier : Earlier) (k d : ℕ) (proof : RankProof) → IsClassRank net (linkage earlier) k d proof → IsClassProof net earlier k d proof
class_proof net earlier k d proof h =
    let size = length (class_members (linkage earlier) k) in
    let left : length proof.base.list ≡ size - 1 - d = omega (arith, h.left) in
    subst (λ (s : ℕ). IsRankProof net (class_places net earlier k) s proof) left h.proves.formed

class_number : (net : Net) (earlier : Earlier) (k d : ℕ) (proof : RankProof) → IsNetwork net → IsLabelled net (linkage earlier) → IsClass (linkage earlier) k → IsClassRank net (linkage earlier) k d proof → IsClassNumber net earlier k d
class_number net earlier k d proof n l c h =
    let labels = linkage earlier in
    let r : IsFrom 1 (min (length net.names) (length (class_reactions net labels k))) (length proof.base.list) =
    rank_from net (class_reactions net labels k) (length proof.base.list) n (λ q i. (class_reaction net labels k q i).0) (class_some net labels k n l c) (class_rank_is net labels k d proof h) in
    (omega (arith, r.0, h.left), omega (arith, r.1, h.left, reactions_count net labels k))

-- ---- all classes

-- one more class at the end
pub ranks_push : (net : Net) (labels : List ℕ) (k : ℕ) (ds : List ℕ) (proofs : List RankProof) (d : ℕ) (proof : RankProof) → AreClassRanks net labels k ds proofs → IsClassRank net labels (k + length ds) d proof
    → AreClassRanks net labels k (ds ++ d ∷ []) (proofs ++ proof ∷ [])
ranks_push net labels k [] [] d proof h g = (subst (λ (j : ℕ). IsClassRank net labels j d proof) (omega arith) g, tt)
ranks_push net labels k [] (q ∷ proofs) d proof h g = absurd h
ranks_push net labels k (e ∷ ds) [] d proof h g = absurd h
ranks_push net labels k (e ∷ ds) (q ∷ proofs) d proof h g =
    (h.0, ranks_push net labels (suc k) ds proofs d proof h.1 (subst (λ (j : ℕ). IsClassRank net labels j d proof) (omega arith) g))

pub class_proofs : (net : Net) (earlier : Earlier) (k : ℕ) (ds : List ℕ) (proofs : List RankProof) → AreClassRanks net (linkage earlier) k ds proofs → AreClassProofs net earlier k ds proofs
class_proofs net earlier k [] [] h = tt
class_proofs net earlier k [] (q ∷ proofs) h = absurd h
class_proofs net earlier k (d ∷ ds) [] h = absurd h
class_proofs net earlier k (d ∷ ds) (q ∷ proofs) h = (class_proof net earlier k d q h.0, class_proofs net earlier (suc k) ds proofs h.1)

pub class_numbers : (net : Net) (earlier : Earlier) (k : ℕ) (ds : List ℕ) (proofs : List RankProof) → IsNetwork net → IsLabelled net (linkage earlier) → ((j : ℕ) → k ≤ j → j < k + length ds → IsClass (linkage earlier) j)
    → AreClassRanks net (linkage earlier) k ds proofs → AreClassNumbers net earlier k ds
class_numbers net earlier k [] proofs n l c h = tt
class_numbers net earlier k (d ∷ ds) [] n l c h = absurd h
class_numbers net earlier k (d ∷ ds) (q ∷ proofs) n l c h = (
  class_number net earlier k d q n l (c k (omega arith) (omega arith)) h.0,
  class_numbers net earlier (suc k) ds proofs n l (λ j from below. c j (omega (arith, from)) (omega (arith, below))) h.1,
)

pub class_tests : (net : Net) (earlier : Earlier) (part k : ℕ) (ds : List ℕ) (proofs : List RankProof) → AreClassRanks net (linkage earlier) k ds proofs → AllHold (class_rank_tests net earlier part k proofs)
class_tests net earlier part k [] [] h = tt
class_tests net earlier part k [] (q ∷ proofs) h = absurd h
class_tests net earlier part k (d ∷ ds) [] h = absurd h
class_tests net earlier part k (d ∷ ds) (q ∷ proofs) h =
    let later = part + 1 + length q.duals + length q.combs in
    hold_append (rank_tests net (class_places net earlier k) part q.base.list q.duals q.combs) (class_rank_tests net earlier later (suc k) proofs) (h.0.proves.holds part) (class_tests net earlier later (suc k) ds proofs h.1)

pub class_each : (net : Net) (labels : List ℕ) (j : ℕ) (ds : List ℕ) (proofs : List RankProof) → AreClassRanks net labels j ds proofs → (k : ℕ) → k < length ds → IsClassDeficiency net labels (j + k) (get_or ds k 0)
class_each net labels j [] proofs h k lt = absurd (omega (arith, lt))
class_each net labels j (d ∷ ds) [] h k lt = absurd h
class_each net labels j (d ∷ ds) (q ∷ proofs) h zero lt =
    let here : IsClassDeficiency net labels j d = record { rank = length q.base.list; rank_is = class_rank_is net labels j d q h.0; is = h.0.left } in
    subst (λ (m : ℕ). IsClassDeficiency net labels m d) (omega arith) here
class_each net labels j (d ∷ ds) (q ∷ proofs) h (suc k) lt =
    subst (λ (m : ℕ). IsClassDeficiency net labels m (get_or ds k 0)) (omega arith) (class_each net labels (suc j) ds proofs h.1 k (omega (arith, lt)))

-- ---- deficiencies are at most the number of complexes

pub class_bounds : (net : Net) (labels : List ℕ) (k : ℕ) (ds : List ℕ) (proofs : List RankProof) → IsLabelled net labels → AreClassRanks net labels k ds proofs → AllByRecursion (λ x. (0 ≤ x) × (x ≤ length net.complexes)) ds
class_bounds net labels k [] proofs l h = tt
class_bounds net labels k (d ∷ ds) [] l h = absurd h
class_bounds net labels k (d ∷ ds) (q ∷ proofs) l h =
    ((omega arith, omega (arith, h.0.left, filter_few (λ m. m == k) labels, l.long)), class_bounds net labels (suc k) ds proofs l h.1)

-- a class has at most as many complexes as the network
pub class_short : (net : Net) (labels : List ℕ) (k : ℕ) → IsLabelled net labels → length (class_members labels k) ≤ length net.complexes
class_short net labels k l = omega (arith, filter_few (λ m. m == k) labels, l.long)
