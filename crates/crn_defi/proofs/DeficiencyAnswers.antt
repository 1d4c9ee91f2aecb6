-- The answer on deficiencies that ranks of the linkage classes or a stop give.
use Rattle.crn_defi.proofs.Prelude.{◌≡◌, ℕ, ◌+◌, ◌<◌, ◌≤◌, List, length, get_or, refl, sym, subst, ◌∙◌, arith, Option, Some, IsSome, length-map, KeptNums, Net, IsNetwork, reaction_vector, NamesWide, IsLabelCount, IsRank, vectors, class_reactions, AreDeficiencies, IsClassDeficiency, class_system, RankProof, Answer, Wide, Deficiency, Unknown, Ranks, Earlier, Q5, Q6, on, rank_of, IsFrom, AreLinkageClasses, IsBasisOf, IsFormed, IsWideGap, linkage, linkage_count, IsValid, IsLeft, IsClassWide, IsAnswer, GiveRank, wide_basis, classes_are_formed, reactions_of, IsClass, AreClassRanks, plain}
use Rattle.crn_defi.proofs.Places.{reactions_count}
use Rattle.crn_defi.proofs.Counted.{number_of_classes}
use Rattle.crn_defi.proofs.ClassRanks.{class_proofs, class_numbers, class_tests, class_each, class_bounds}

-- what is left of the complexes, by the rank that earlier verdicts give
pub left_is : (net : Net) (earlier : Earlier) (total rank : ℕ) → rank_of (on earlier Q5) ≡ Some rank → total + linkage_count earlier + rank ≡ length net.complexes → IsLeft net earlier total (rank_of (on earlier Q5))
left_is net earlier total rank e left = subst (IsLeft net earlier total) (sym e) left

pub rank_known : (earlier : Earlier) (rank : ℕ) → rank_of (on earlier Q5) ≡ Some rank → IsSome (rank_of (on earlier Q5))
rank_known earlier rank e = subst (λ (o : Option ℕ). IsSome o) (sym e) refl

-- a complex of each class
pub class_at : (labels : List ℕ) (count : ℕ) → IsLabelCount labels count → (k : ℕ) → 1 ≤ k → k ≤ count → IsClass labels k
class_at labels count h k from most = h.each k from most

-- the deficiencies are right
pub deficiencies_are : (net : Net) (count total rank : ℕ) (labels ds : List ℕ) (proofs : List RankProof) → AreLinkageClasses net count labels → IsRank (vectors net) rank → AreClassRanks net labels 1 ds proofs → length ds ≡ count
    → total + count + rank ≡ length net.complexes → AreDeficiencies net total ds
deficiencies_are net count total rank labels ds proofs h r ranks long left = record {
  labels = labels;
  labelled = h.labelled;
  count = subst (IsLabelCount labels) (sym long) h.count_is;
  total_is = record { classes = count; rank = rank; classes_are = number_of_classes net count labels h; rank_is = r; is = left };
  each = λ k lt. subst (λ (m : ℕ). IsClassDeficiency net labels m (get_or ds k 0)) (omega arith) (class_each net labels 1 ds proofs ranks k lt);
}

given_by : (net : Net) (budget : ℕ) (earlier : Earlier) (total rank : ℕ) (ds : KeptNums) (proofs : List RankProof) → IsNetwork net → rank_of (on earlier Q5) ≡ Some rank → IsRank (vectors net) rank → AreLinkageClasses net (linkage_count earlier) (linkage earlier)
    → AreClassRanks net (linkage earlier) 1 ds.list proofs → length ds.list ≡ linkage_count earlier → total + linkage_count earlier + rank ≡ length net.complexes → IsAnswer net budget earlier Q6 (record { verdict = Deficiency total ds; proof = Ranks proofs })
given_by net budget earlier total rank ds proofs n known r h ranks long left =
    let answer : Answer = record { verdict = Deficiency total ds; proof = Ranks proofs } in
    let formed : IsFormed net earlier Q6 answer =
    classes_are_formed net earlier total ds proofs (omega arith, omega (arith, left)) (record { long = long; each = class_bounds net (linkage earlier) 1 ds.list proofs h.labelled ranks }) (class_proofs net earlier 1 ds.list proofs ranks) in
    let classes : (j : ℕ) → 1 ≤ j → j < 1 + length ds.list → IsClass (linkage earlier) j = λ j from below. class_at (linkage earlier) (linkage_count earlier) h.count_is j from (omega (arith, below, long)) in
    let valid : IsValid net earlier Q6 answer =
    (rank_known earlier rank known, ((left_is net earlier total rank known left, class_numbers net earlier 1 ds.list proofs n h.labelled classes ranks), class_tests net earlier 1 1 ds.list proofs ranks)) in
    record { formed = formed; valid = valid; answered = deficiencies_are net (linkage_count earlier) total rank (linkage earlier) ds.list proofs h r ranks long left }

pub deficiencies_given : (net : Net) (budget : ℕ) (earlier : Earlier) (count total rank : ℕ) (labels : List ℕ) (ds : KeptNums) (proofs : List RankProof) → IsNetwork net → GiveRank earlier labels count rank → IsRank (vectors net) rank
    → AreLinkageClasses net count labels → AreClassRanks net labels 1 ds.list proofs → length ds.list ≡ count → total + count + rank ≡ length net.complexes → IsAnswer net budget earlier Q6 (record { verdict = Deficiency total ds; proof = Ranks proofs })
deficiencies_given net budget earlier count total rank labels ds proofs n g r h ranks long left =
    let e = sym g.count_is in
    let f = sym g.labels_are in
    given_by net budget earlier total rank ds proofs n g.rank_is r
    (subst (λ (ls : List ℕ). AreLinkageClasses net (linkage_count earlier) ls) f (subst (λ (m : ℕ). AreLinkageClasses net m labels) e h))
    (subst (λ (ls : List ℕ). AreClassRanks net ls 1 ds.list proofs) f ranks) (long ∙ e) (subst (λ (m : ℕ). total + m + rank ≡ length net.complexes) e left)

-- ---- open

wide_by : (net : Net) (budget : ℕ) (earlier : Earlier) (rank class index : ℕ) (basis : KeptNums) → rank_of (on earlier Q5) ≡ Some rank → AreLinkageClasses net (linkage_count earlier) (linkage earlier) → IsFrom 1 (linkage_count earlier) class
    → NamesWide (class_system net (linkage earlier) class) index basis.list → IsAnswer net budget earlier Q6 (plain (Unknown (Wide 3 class index basis)))
wide_by net budget earlier rank class index basis known h from wide =
    let labels = linkage earlier in
    let a = class_system net labels class in
    let rows : length a.rows ≡ length (reactions_of net labels class) = length-map (class_reactions net labels class) (reaction_vector net) ∙ sym (reactions_count net labels class) in
    let basis_is : IsBasisOf (length net.names) (length (reactions_of net labels class)) index basis.list = wide_basis a (length net.names) (length (reactions_of net labels class)) index basis.list refl rows wide in
    let gap : IsWideGap net earlier Q6 3 class index basis.list = ((refl, from, basis_is), tt) in
    let of_class : IsClassWide net class basis.list index = record { labels = labels; labelled = h.labelled; wide = wide } in
    record { formed = (record { head = gap; rows = tt; trees = tt }, (refl, refl)); valid = tt; answered = (gap, (rank_known earlier rank known, of_class)) }

pub deficiencies_wide : (net : Net) (budget : ℕ) (earlier : Earlier) (count rank class index : ℕ) (labels : List ℕ) (basis : KeptNums) → GiveRank earlier labels count rank → AreLinkageClasses net count labels → IsFrom 1 count class
    → NamesWide (class_system net labels class) index basis.list → IsAnswer net budget earlier Q6 (plain (Unknown (Wide 3 class index basis)))
deficiencies_wide net budget earlier count rank class index labels basis g h from wide =
    let e = sym g.count_is in
    let f = sym g.labels_are in
    wide_by net budget earlier rank class index basis g.rank_is
    (subst (λ (ls : List ℕ). AreLinkageClasses net (linkage_count earlier) ls) f (subst (λ (m : ℕ). AreLinkageClasses net m labels) e h))
    (subst (λ (m : ℕ). IsFrom 1 m class) e from) (subst (λ (ls : List ℕ). NamesWide (class_system net ls class) index basis.list) f wide)
