-- The deficiencies of the linkage classes sum to at most that of the network.
use Rattle.crn_space.proofs.Prelude.{◌≡◌, ℕ, suc, ◌+◌, ◌<◌, ◌≤◌, ◌==◌, Bool, List, [], ◌∷◌, length, get_or, map, sym, subst, arith, filter, sum, length-map, sum_by-cons, IsIn, Net, JoinsTwo, reaction_vector, SameClass, IsIndependent, IsComplex, class_reactions, class_members, IsClassDeficiency, all_in, in_at, class_then, class_back, number_is_one, ClassDeficienciesSumToAtMost}
use Rattle.crn_space.proofs.Chosen.{taken, taken_vectors, taken_in}
use Rattle.crn_space.proofs.Counts.{counted, counted_all}
use Rattle.crn_space.proofs.Roots.{number_of_classes}
use Rattle.crn_space.proofs.Parts.{IsPart, part_filter, part_filters, part_map, part_independent, part_few, part_places}

-- ---- the deficiencies of the classes

abbrev reaction_label : List ℕ → ℕ × ℕ → ℕ
reaction_label labels r = get_or labels r.0 0

abbrev own_label : ℕ → ℕ
own_label l = l

-- independent reactions of a class are at most its rank
class_few : (net : Net) (labels : List ℕ) (k d : ℕ) (rs : List (ℕ × ℕ)) → IsClassDeficiency net labels k d → IsPart rs net.reactions → IsIndependent (map (reaction_vector net) rs)
    → d + 1 + length (filter (λ r. reaction_label labels r == k) rs) ≤ length (class_members labels k)
class_few net labels k d rs h part free =
    let vector = reaction_vector net in
    let p : ℕ × ℕ → Bool = λ r. reaction_label labels r == k in
    let mine = filter p rs in
    let within : IsPart (map vector mine) (map vector (class_reactions net labels k)) = part_map vector mine (filter p net.reactions) (part_filters p rs net.reactions part) in
    let alone : IsIndependent (map vector mine) = part_independent (map vector mine) (map vector rs) (part_map vector mine rs (part_filter p rs)) free in
    let few : length (map vector mine) ≤ h.rank = part_few (map vector mine) (map vector (class_reactions net labels k)) h.rank h.rank_is within alone in
    omega (arith, few, length-map mine vector, h.is)

pub classes_few : (net : Net) (labels : List ℕ) (rs : List (ℕ × ℕ)) (k : ℕ) (ds : List ℕ) → ((j : ℕ) → j < length ds → IsClassDeficiency net labels (j + k) (get_or ds j 0)) → IsPart rs net.reactions → IsIndependent (map (reaction_vector net) rs)
    → sum ds + length ds + counted (reaction_label labels) rs k (length ds) ≤ counted own_label labels k (length ds)
classes_few net labels rs k [] each part free = omega arith
classes_few net labels rs k (d ∷ ds) each part free =
    let first : IsClassDeficiency net labels k d = subst (λ (l : ℕ). IsClassDeficiency net labels l d) (omega arith) (each 0 (omega arith)) in
    let here = class_few net labels k d rs first part free in
    let rest = classes_few net labels rs (suc k) ds (λ j lt. subst (λ (l : ℕ). IsClassDeficiency net labels l (get_or ds j 0)) (omega arith) (each (suc j) (omega (arith, lt)))) part free in
    omega (arith, here, rest, sum_by-cons (λ (x : ℕ). x) d ds)

-- ---- the sum

pub class_deficiencies_sum_to_at_most : ClassDeficienciesSumToAtMost
class_deficiencies_sum_to_at_most net total ds n h =
    let labels = h.labels in
    let l = h.labelled in
    let count = length ds in
    let r = h.total_is.rank_is in
    let below : (k : ℕ) → IsIn k r.places → k < length net.reactions = λ k i. omega (arith, r.choice.below k i, length-map net.reactions (reaction_vector net)) in
    let rs = taken r.places net.reactions in
    let part : IsPart rs net.reactions = part_places (0, 0) net.reactions r.places r.choice.ascending below in
    let free : IsIndependent (map (reaction_vector net) rs) = subst IsIndependent (sym (taken_vectors net net.reactions r.places below)) r.independent in
    let few = classes_few net labels rs 1 ds (λ j lt. h.each j lt) part free in
    let in_class : (y : ℕ) → y < length labels → (1 ≤ get_or labels y 0) × (get_or labels y 0 < 1 + count) = λ y lt. (l.right.positive y lt, omega (arith, h.count.most y lt)) in
    let reactions_all : counted (reaction_label labels) rs 1 count ≡ length rs = counted_all (reaction_label labels) rs 1 count (λ q i.
    let j = all_in (JoinsTwo (length net.complexes)) net.reactions q n.partial.apart (taken_in net.reactions r.places below q i) in
    in_class q.0 (omega (arith, j.1, l.long))) in
    let complexes_all : counted own_label labels 1 count ≡ length labels = counted_all own_label labels 1 count (λ k i.
    let at = in_at k labels 0 i in
    subst (λ (m : ℕ). (1 ≤ m) × (m < 1 + count)) at.2 (in_class at.0 at.1)) in
    let classes_are : h.total_is.classes ≡ count =
    number_is_one (IsComplex net) (SameClass net.reactions) (class_back net.reactions) (class_then net.reactions) h.total_is.classes count h.total_is.classes_are
    (number_of_classes net count labels l h.count) in
    omega (arith, few, reactions_all, complexes_all, classes_are, h.total_is.is, r.count, length-map r.places (λ k. get_or net.reactions k (0, 0)), l.long)
