-- Each network has a deficiency and one for each linkage class, and the two theorems' hypotheses.
use Rattle.crn_laws.proofs.Prelude.{◌≡◌, ℕ, zero, suc, ◌+◌, ◌<◌, ◌≤◌, ◌==◌, inl, inr, Bool, List, [], ◌∷◌, length, get_or, map, true, refl, sym, ap, subst, ◌∙◌, arith, filter, sum, range_with_len, cases_Bool, eq-eqb, eqb-true, ext_get_or, get_or-map, length-map, length-range_with_len, sum_by-cons, IsIn, Net, IsNetwork, JoinsTwo, reaction_vector, AreOfLength, IsLabelCount, IsIndependent, IsRank, vectors, class_members, class_reactions, class_vectors, AreAtMostOne, IsClassDeficiency, IsLabelled, all_from, all_in, deficiency_is_one, filter_distinct, filter_from, filter_has, in_range, inside_at, length-minus, vector_long, IsPart, class_deficiencies_sum_to_at_most, counted, counted_all, few_together, number_of_classes, one_label, part_few, part_filter, part_filters, part_independent, part_map, part_places, range_distinct, rank_leaves, taken, taken_in, taken_vectors, ClassRanksSumToAtLeast, NetworksHaveDeficiencies, DeficiencyZeroGivesDeficiencyOne}
use Rattle.crn_laws.proofs.FirstNumbers.{place_in}
use Rattle.crn_laws.proofs.Labelled.{labelled}
use Rattle.crn_laws.proofs.Ranked.{ranked}

-- ---- the rank of reactions

vectors_wide : (net : Net) (rs : List (ℕ × ℕ)) → IsNetwork net → ((q : ℕ × ℕ) → IsIn q rs → IsIn q net.reactions) → AreOfLength (length net.names) (map (reaction_vector net) rs)
vectors_wide net [] n inside = tt
vectors_wide net (q ∷ rs) n inside =
    let at = inside_at (length net.complexes) net.reactions n.partial.apart q.0 q.1 (inside q (inl refl)) in
    let long : (c : ℕ) → c < length net.complexes → length (get_or net.complexes c []) ≡ length net.names = vector_long (length net.names) net.complexes n.partial.vectors in
    (length-minus (length net.names) (get_or net.complexes q.1 []) (get_or net.complexes q.0 []) (long q.1 at.1) (long q.0 at.0), vectors_wide net rs n (λ p i. inside p (inr i)))

-- ---- the complexes of a linkage class

-- as many numbers of complexes as members with the label
members_count : (k : ℕ) (g : ℕ → ℕ) (xs : List ℕ) → length (filter (λ l. l == k) (map g xs)) ≡ length (filter (λ y. g y == k) xs)
members_count k g [] = refl
members_count k g (x ∷ xs) = elim (cases_Bool (g x == k)) as (λ _. length (filter (λ l. l == k) (map g (x ∷ xs))) ≡ length (filter (λ y. g y == k) (x ∷ xs))) [
  | inl hit ↦ rw hit (omega (arith, members_count k g xs))
  | inr miss ↦ rw miss (members_count k g xs)
]

list_is : (ls : List ℕ) → map (λ y. get_or ls y 0) (range_with_len 0 (length ls)) ≡ ls
list_is ls =
    let n = length ls in
    let range = range_with_len 0 n in
    let f : ℕ → ℕ = λ y. get_or ls y 0 in
    let long : length (map f range) ≡ n = length-map range f ∙ length-range_with_len 0 n in
    ext_get_or 0 (map f range) ls long (λ k lt.
    let inside : k < n = omega (arith, lt, long) in
    get_or-map f range k 0 0 (omega (arith, inside, length-range_with_len 0 n)) ∙ ap f (place_in n k inside))

-- independent reactions of a linkage class are less than its complexes
class_leaves : (net : Net) (labels : List ℕ) (k s y : ℕ) → IsNetwork net → IsLabelled net labels → y < length labels → get_or labels y 0 ≡ k → IsRank (class_vectors net labels k) s → suc s ≤ length (class_members labels k)
class_leaves net labels k s y n l lt is r =
    let c = length net.complexes in
    let p : ℕ × ℕ → Bool = λ q. get_or labels q.0 0 == k in
    let range = range_with_len 0 (length labels) in
    let xs = filter (λ x. get_or labels x 0 == k) range in
    let mine = class_reactions net labels k in
    let below : (j : ℕ) → IsIn j r.places → j < length mine = λ j i. omega (arith, r.choice.below j i, length-map mine (reaction_vector net)) in
    let rs = taken r.places mine in
    let from : (q : ℕ × ℕ) → IsIn q rs → IsIn q net.reactions × (p q ≡ true) = λ q i. filter_from p net.reactions q (taken_in mine r.places below q i) in
    let here : (x : ℕ) → x < c → get_or labels x 0 ≡ k → IsIn x xs = λ x lx e. filter_has (λ x. get_or labels x 0 == k) range x (in_range x 0 (length labels) (omega arith) (omega (arith, lx, l.long))) (eq-eqb (get_or labels x 0) k e) in
    let joins : (q : ℕ × ℕ) → IsIn q rs → JoinsTwo c q = λ q i. all_in (JoinsTwo c) net.reactions q n.partial.apart (from q i).0 in
    let few : length rs + 1 ≤ length xs =
    few_together net labels xs (y ∷ []) rs n (filter_distinct (λ x. get_or labels x 0 == k) range (range_distinct 0 (length labels)))
    (λ a b i.
    let at = joins (a, b) i in
    let one : get_or labels a 0 ≡ k = eqb-true (get_or labels a 0) k (from (a, b) i).1 in
    (here a at.1 one, here b at.2 (sym (one_label net labels n l a b (from (a, b) i).0) ∙ one)))
    (λ a b i. one_label net labels n l a b (from (a, b) i).0)
    (λ t i. elim i as (λ _. IsIn t xs) [ inl e ↦ subst (λ (x : ℕ). IsIn x xs) (sym e) (here y (omega (arith, lt, l.long)) is) | inr j ↦ absurd j ])
    (λ z i same. absurd i, tt)
    (all_from (JoinsTwo c) rs joins) (subst IsIndependent (sym (taken_vectors net mine r.places below)) r.independent) in
    let count : length (class_members labels k) ≡ length xs = ap (λ (ls : List ℕ). length (filter (λ l. l == k) ls)) (sym (list_is labels)) ∙ members_count k (λ x. get_or labels x 0) range in
    omega (arith, few, count, length-map r.places (λ j. get_or mine j (0, 0)), r.count)

-- ---- deficiencies

-- what is left of a number
left : (m n : ℕ) → m ≤ n → (d : ℕ) × (d + m ≡ n)
left zero n le = (n, omega arith)
left (suc m) zero le = absurd (omega (arith, le))
left (suc m) (suc n) le = let r = left m n (omega (arith, le)) in (r.0, omega (arith, r.1))

class_deficiency : (net : Net) (labels : List ℕ) (count k : ℕ) → IsNetwork net → IsLabelled net labels → IsLabelCount labels count → 1 ≤ k → k ≤ count → (d : ℕ) × IsClassDeficiency net labels k d
class_deficiency net labels count k n l counted some most =
    let mine = class_reactions net labels k in
    let s = ranked (length net.names) (class_vectors net labels k) (vectors_wide net mine n (λ q i. (filter_from (λ q. get_or labels q.0 0 == k) net.reactions q i).0)) in
    let y = counted.each k some most in
    let d = left (suc s.0) (length (class_members labels k)) (class_leaves net labels k s.0 y.0 n l y.1 y.2 s.1) in
    (d.0, record { rank = s.0; rank_is = s.1; is = omega (arith, d.1) })

-- those of the classes from k + 1 on, so many
record Rest (net : Net) (labels : List ℕ) (k count : ℕ) : Type 0 where
  ds : List ℕ
  long : length ds ≡ count
  each : (j : ℕ) → j < length ds → IsClassDeficiency net labels (k + j + 1) (get_or ds j 0)

rest : (net : Net) (labels : List ℕ) (count k more : ℕ) → IsNetwork net → IsLabelled net labels → IsLabelCount labels count → k + more ≡ count → Rest net labels k more
rest net labels count k zero n l counted e = record { ds = []; long = refl; each = λ j lt. absurd (omega (arith, lt)) }
rest net labels count k (suc more) n l counted e =
    let d = class_deficiency net labels count (k + 1) n l counted (omega arith) (omega (arith, e)) in
    let r = rest net labels count (suc k) more n l counted (omega (arith, e)) in
    record { ds = d.0 ∷ r.ds; long = omega (arith, r.long); each = by_place net labels k d.0 r.ds d.1 r.each }
  where
    by_place : (net : Net) (labels : List ℕ) (k d : ℕ) (ds : List ℕ) → IsClassDeficiency net labels (k + 1) d → ((j : ℕ) → j < length ds → IsClassDeficiency net labels (suc k + j + 1) (get_or ds j 0)) → (j : ℕ) → j < length (d ∷ ds) → IsClassDeficiency net labels (k + j + 1) (get_or (d ∷ ds) j 0)
    by_place net labels k d ds here later zero lt = subst (λ (l : ℕ). IsClassDeficiency net labels l d) (let e : k + 1 ≡ k + 0 + 1 = omega arith in e) here
    by_place net labels k d ds here later (suc j) lt = subst (λ (l : ℕ). IsClassDeficiency net labels l (get_or ds j 0)) (let e : suc k + j + 1 ≡ k + suc j + 1 = omega arith in e) (later j (omega (arith, lt)))

pub networks_have_deficiencies : NetworksHaveDeficiencies
networks_have_deficiencies net n =
    let l = labelled net in
    let s = ranked (length net.names) (vectors net) (vectors_wide net net.reactions n (λ q i. i)) in
    let d = left (l.count + s.0) (length net.complexes) (rank_leaves net l.count s.0 l.labels n l.right l.counted s.1) in
    let r = rest net l.labels l.count 0 l.count n l.right l.counted (omega arith) in (
      d.0,
      r.ds,
      record {
        labels = l.labels;
        labelled = l.right;
        count = subst (IsLabelCount l.labels) (sym r.long) l.counted;
        total_is = record {
          classes = l.count;
          rank = s.0;
          classes_are = number_of_classes net l.count l.labels l.right l.counted;
          rank_is = s.1;
          is = omega (arith, d.1);
        };
        each = λ k lt. subst (λ (j : ℕ). IsClassDeficiency net l.labels j (get_or r.ds k 0)) (let e : 0 + k + 1 ≡ k + 1 = omega arith in e) (r.each k lt);
      },
    )

-- ---- the ranks of the classes

abbrev label_of : List ℕ → ℕ × ℕ → ℕ
label_of labels r = get_or labels r.0 0

-- independent reactions of a linkage class are at most its rank
class_holds : (net : Net) (labels : List ℕ) (k s : ℕ) (rs : List (ℕ × ℕ)) → IsRank (class_vectors net labels k) s → IsPart rs net.reactions → IsIndependent (map (reaction_vector net) rs)
    → length (filter (λ r. label_of labels r == k) rs) ≤ s
class_holds net labels k s rs r part free =
    let vector = reaction_vector net in
    let p : ℕ × ℕ → Bool = λ q. label_of labels q == k in
    let mine = filter p rs in
    let whole = class_reactions net labels k in
    let within : IsPart (map vector mine) (map vector whole) = part_map vector mine whole (part_filters p rs net.reactions part) in
    let alone : IsIndependent (map vector mine) = part_independent (map vector mine) (map vector rs) (part_map vector mine rs (part_filter p rs)) free in
    omega (arith, part_few (map vector mine) (map vector whole) s r within alone, length-map mine vector)

ranks_hold : (net : Net) (labels : List ℕ) (rs : List (ℕ × ℕ)) (k : ℕ) (ss : List ℕ) → ((j : ℕ) → j < length ss → IsRank (class_vectors net labels (j + k)) (get_or ss j 0)) → IsPart rs net.reactions → IsIndependent (map (reaction_vector net) rs)
    → counted (label_of labels) rs k (length ss) ≤ sum ss
ranks_hold net labels rs k [] each part free = omega arith
ranks_hold net labels rs k (s ∷ ss) each part free =
    let first : IsRank (class_vectors net labels k) s = subst (λ (l : ℕ). IsRank (class_vectors net labels l) s) (let e : 0 + k ≡ k = omega arith in e) (each 0 (omega arith)) in
    let here = class_holds net labels k s rs first part free in
    let more = ranks_hold net labels rs (suc k) ss (λ j lt. subst (λ (l : ℕ). IsRank (class_vectors net labels l) (get_or ss j 0)) (let e : suc j + k ≡ j + suc k = omega arith in e) (each (suc j) (omega (arith, lt)))) part free in
    omega (arith, here, more, sum_by-cons (λ (x : ℕ). x) s ss)

pub class_ranks_sum_to_at_least : ClassRanksSumToAtLeast
class_ranks_sum_to_at_least net labels ranks s n l count r each =
    let below : (k : ℕ) → IsIn k r.places → k < length net.reactions = λ k i. omega (arith, r.choice.below k i, length-map net.reactions (reaction_vector net)) in
    let rs = taken r.places net.reactions in
    let part : IsPart rs net.reactions = part_places (0, 0) net.reactions r.places r.choice.ascending below in
    let free : IsIndependent (map (reaction_vector net) rs) = subst IsIndependent (sym (taken_vectors net net.reactions r.places below)) r.independent in
    let few = ranks_hold net labels rs 1 ranks each part free in
    let all : counted (label_of labels) rs 1 (length ranks) ≡ length rs = counted_all (label_of labels) rs 1 (length ranks) (λ q i.
    let j = all_in (JoinsTwo (length net.complexes)) net.reactions q n.partial.apart (taken_in net.reactions r.places below q i) in
    let at : q.0 < length labels = omega (arith, j.1, l.long) in
    (l.right.positive q.0 at, omega (arith, count.most q.0 at))) in
    omega (arith, few, all, length-map r.places (λ k. get_or net.reactions k (0, 0)), r.count)

-- ---- the hypotheses

small : (ds : List ℕ) → sum ds ≤ 0 → AreAtMostOne ds
small [] h = tt
small (d ∷ ds) h = (omega (arith, h, sum_by-cons (λ (x : ℕ). x) d ds), small ds (omega (arith, h, sum_by-cons (λ (x : ℕ). x) d ds)))

pub deficiency_zero_gives_deficiency_one : DeficiencyZeroGivesDeficiencyOne
deficiency_zero_gives_deficiency_one net n none one =
    let has = networks_have_deficiencies net n in
    let few = class_deficiencies_sum_to_at_most net has.0 has.1 n has.2 in
    let is = deficiency_is_one net has.0 0 has.2.total_is none in
    record {
      terminal = one;
      total = has.0;
      classes = has.1;
      deficiencies = has.2;
      small = small has.1 (omega (arith, few, is));
      additive = omega (arith, few, is);
    }
