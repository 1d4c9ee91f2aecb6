-- How many linkage classes there are, and what the ranks of a network and of its linkage classes leave of the complexes.
use Rattle.crn_defi.proofs.Prelude.{◌≡◌, ℕ, ◌+◌, ◌<◌, ◌≤◌, ◌==◌, inl, inr, List, [], ◌∷◌, length, get_or, sym, subst, ◌∙◌, arith, range_with_len, length-map, IsIn, Net, IsNetwork, JoinsTwo, reaction_vector, SameClass, IsNumberOf, IsIndependent, IsRank, vectors, IsComplex, IsLabelled, class_reactions, class_vectors, class_members, all_in, all_from, filter_distinct, AreLinkageClasses, IsClass, few_together, one_label, classes_number, leaves, range_distinct, taken, taken_vectors, taken_in}
use Rattle.crn_defi.proofs.Places.{complexes_at, size_is, in_class, class_reaction}

-- ---- how many classes there are

pub number_of_classes : (net : Net) (count : ℕ) (labels : List ℕ) → AreLinkageClasses net count labels → IsNumberOf (IsComplex net) (SameClass net.reactions) count
number_of_classes net count labels h = classes_number net count labels h.labelled h.count_is

-- ---- the rank leaves a complex for each class

pub rank_leaves : (net : Net) (count s : ℕ) (labels : List ℕ) → IsNetwork net → AreLinkageClasses net count labels → IsRank (vectors net) s → count + s ≤ length net.complexes
rank_leaves net count s labels n h r = leaves net count s labels n h.labelled h.count_is r

-- the rank of a class leaves one of its complexes
pub class_rank_leaves : (net : Net) (labels : List ℕ) (k s : ℕ) → IsNetwork net → IsLabelled net labels → IsClass labels k → IsRank (class_vectors net labels k) s → 1 + s ≤ length (class_members labels k)
class_rank_leaves net labels k s n l (root, lt, e) r =
    let c = length net.complexes in
    let qs = class_reactions net labels k in
    let xs = complexes_at labels k in
    let below : (k' : ℕ) → IsIn k' r.places → k' < length qs = λ k' i. omega (arith, r.choice.below k' i, length-map qs (reaction_vector net)) in
    let rs = taken r.places qs in
    let from : (q : ℕ × ℕ) → IsIn q rs → IsIn q net.reactions × (get_or labels q.0 0 ≡ k) = λ q i. class_reaction net labels k q (taken_in qs r.places below q i) in
    let joins : (q : ℕ × ℕ) → IsIn q rs → JoinsTwo c q = λ q i. all_in (JoinsTwo c) net.reactions q n.partial.apart (from q i).0 in
    let even : (y z : ℕ) → IsIn (y, z) rs → get_or labels y 0 ≡ get_or labels z 0 = λ y z i. one_label net labels n l y z (from (y, z) i).0 in
    let few : length rs + 1 ≤ length xs =
    few_together net labels xs (root ∷ []) rs n (filter_distinct (λ y. get_or labels y 0 == k) (range_with_len 0 (length labels)) (range_distinct 0 (length labels)))
    (λ y z i.
    let j = joins (y, z) i in
    let f = from (y, z) i in
    (in_class labels k y (omega (arith, j.1, l.long)) f.1, in_class labels k z (omega (arith, j.2, l.long)) (sym (even y z i) ∙ f.1)))
    even
    (λ y i. elim i as (λ _. IsIn y xs) [ inl f ↦ subst (λ (w : ℕ). IsIn w xs) (sym f) (in_class labels k root lt e) | inr j ↦ absurd j ])
    (λ y i f. absurd i, tt) (all_from (JoinsTwo c) rs joins) (subst IsIndependent (sym (taken_vectors net qs r.places below)) r.independent) in
    omega (arith, few, length-map r.places (λ k'. get_or qs k' (0, 0)), r.count, size_is labels k)
