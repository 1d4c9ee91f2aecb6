-- The deficiencies of the linkage classes, and the two theorems' hypotheses, do not depend on the numbering.
use Rattle.crn_laws.proofs.Prelude.{◌≡◌, ℕ, zero, suc, ◌+◌, ◌<◌, ◌≤◌, ◌==◌, inl, inr, Bool, List, [], ◌∷◌, length, get_or, refl, sym, ap, subst, ◌∙◌, arith, ℤ, pos, sum, eq-eqb, eqb-true, ne_eqb, ints, sum_by-cons, IsIn, Net, IsNetwork, IsLabelCount, IsRank, vectors, class_members, class_reactions, class_vectors, AreAtMostOne, AreDeficiencies, IsClassDeficiency, IsComplex, IsDeficiency, IsDeficiencyOne, IsLabelled, all_at, all_given, deficiency_is_one, eq_or, filter_distinct, filter_from, filter_has, first_goes, first_stays, inside_at, rank_is_one_number, IsInOrder, IsRenumbered, RenumberedShareHypotheses, RenumberedShareNumbers}
use Rattle.crn_laws.proofs.Deficiencies.{networks_have_deficiencies}
use Rattle.crn_laws.proofs.Renumberings.{matching, reacts_anew, turned_net}
use Rattle.crn_laws.proofs.SharedClasses.{one_terminal_anew}
use Rattle.crn_laws.proofs.SharedDependence.{both_ways}
use Rattle.crn_laws.proofs.SharedRank.{Correspond, deficiency_anew, moved, rank_anew, rank_moved}
use Rattle.crn_laws.proofs.SharedWalks.{class_anew}
use Rattle.crn_laws.proofs.Totals.{pick, pick_here, pick_other, total, total_renumbered, total_same}

-- ---- labels of both networks

-- complexes of one label have one label in the other network
labels_anew : (net other : Net) (h : IsRenumbered net other) (ls ms : List ℕ) → IsLabelled net ls → IsLabelled other ms → (y z : ℕ) → IsComplex net y → IsComplex net z → get_or ls y 0 ≡ get_or ls z 0 → get_or ms (h.complexes.to y) 0 ≡ get_or ms (h.complexes.to z) 0
labels_anew net other h ls ms l m y z iy iz e =
    let to = h.complexes.to in
    let walk = l.right.same y z (omega (arith, iy, l.long)) (omega (arith, iz, l.long)) e in
    m.right.together (to y) (to z) (omega (arith, h.complexes.to_below y iy, m.long)) (omega (arith, h.complexes.to_below z iz, m.long)) (class_anew net other h y z walk)

labels_back : (net other : Net) → IsNetwork net → (h : IsRenumbered net other) (ls ms : List ℕ) → IsLabelled net ls → IsLabelled other ms → (y z : ℕ) → IsComplex net y → IsComplex net z → get_or ms (h.complexes.to y) 0 ≡ get_or ms (h.complexes.to z) 0 → get_or ls y 0 ≡ get_or ls z 0
labels_back net other n h ls ms l m y z iy iz e =
    let c = h.complexes in
    let same = labels_anew other net (turned_net net other n h) ms ls m l (c.to y) (c.to z) (c.to_below y iy) (c.to_below z iz) e in
    ap (λ (x : ℕ). get_or ls x 0) (sym (c.back_to y iy)) ∙ same ∙ ap (λ (x : ℕ). get_or ls x 0) (c.back_to z iz)

-- ---- the complexes and the reactions of a linkage class

members_total : (ls : List ℕ) (k : ℕ) → pos (length (class_members ls k)) ≡ total (length ls) (λ y. pick (get_or ls y 0) k (pos 1))
members_total [] k = refl
members_total (l ∷ ls) k = elim (eq_or l k) as (λ _. pos (length (class_members (l ∷ ls) k)) ≡ total (length (l ∷ ls)) (λ y. pick (get_or (l ∷ ls) y 0) k (pos 1))) [
  | inl e ↦
      let stays = first_stays (λ m. m == k) l ls (eq-eqb l k e) in
      let one : pick l k (pos 1) ≡ pos 1 = ap (λ (m : ℕ). pick m k (pos 1)) e ∙ pick_here k (pos 1) in
      omega (arith, ints, ap length stays, one, members_total ls k)
  | inr ne ↦
      let goes = first_goes (λ m. m == k) l ls (ne_eqb l k ne) in
      omega (arith, ints, ap length goes, pick_other l k (pos 1) ne, members_total ls k)
]

members_anew : (net other : Net) → IsNetwork net → (h : IsRenumbered net other) (ls ms : List ℕ) → IsLabelled net ls → IsLabelled other ms → (y : ℕ) → IsComplex net y
    → length (class_members ls (get_or ls y 0)) ≡ length (class_members ms (get_or ms (h.complexes.to y) 0))
members_anew net other n h ls ms l m y iy =
    let to = h.complexes.to in
    let k = get_or ls y 0 in
    let j = get_or ms (to y) 0 in
    let f : ℕ → ℤ = λ z. pick (get_or ls z 0) k (pos 1) in
    let g : ℕ → ℤ = λ z. pick (get_or ms z 0) j (pos 1) in
    let each : (z : ℕ) → z < length net.complexes → f z ≡ g (to z) = λ z lt. elim (eq_or (get_or ls z 0) k) as (λ _. f z ≡ g (to z)) [
      | inl e ↦
          let there : get_or ms (to z) 0 ≡ j = labels_anew net other h ls ms l m z y lt iy e in
          ap (λ (a : ℕ). pick a k (pos 1)) e ∙ pick_here k (pos 1) ∙ sym (ap (λ (a : ℕ). pick a j (pos 1)) there ∙ pick_here j (pos 1))
      | inr ne ↦ pick_other (get_or ls z 0) k (pos 1) ne ∙ sym (pick_other (get_or ms (to z) 0) j (pos 1) (λ e. ne (labels_back net other n h ls ms l m z y lt iy e)))
    ] in
    let here : total (length ls) f ≡ total (length net.complexes) f = ap (λ (c : ℕ). total c f) l.long in
    let there : total (length ms) g ≡ total (length other.complexes) g = ap (λ (c : ℕ). total c g) m.long in
    let same = total_same (length net.complexes) f (λ z. g (to z)) each in
    omega (arith, ints, members_total ls k, members_total ms j, here, there, same, total_renumbered (length net.complexes) (length other.complexes) h.complexes g)

class_there : (net other : Net) → IsNetwork net → (h : IsRenumbered net other) (ls ms : List ℕ) → IsLabelled net ls → IsLabelled other ms → (y : ℕ) → IsComplex net y
    → (q : ℕ × ℕ) → IsIn q (class_reactions net ls (get_or ls y 0)) → IsIn (moved net other h q) (class_reactions other ms (get_or ms (h.complexes.to y) 0))
class_there net other n h ls ms l m y iy q i =
    let from = filter_from (λ p. get_or ls p.0 0 == get_or ls y 0) net.reactions q i in
    let at = inside_at (length net.complexes) net.reactions n.partial.apart q.0 q.1 from.0 in
    let same = labels_anew net other h ls ms l m q.0 y at.0 iy (eqb-true (get_or ls q.0 0) (get_or ls y 0) from.1) in
    filter_has (λ p. get_or ms p.0 0 == get_or ms (h.complexes.to y) 0) other.reactions (moved net other h q) (reacts_anew net other h q.0 q.1 from.0) (eq-eqb (get_or ms (h.complexes.to q.0) 0) (get_or ms (h.complexes.to y) 0) same)

class_correspond : (net other : Net) → IsNetwork net → IsNetwork other → (h : IsRenumbered net other) (ls ms : List ℕ) → IsLabelled net ls → IsLabelled other ms → (y : ℕ) → IsComplex net y
    → Correspond net other h (class_reactions net ls (get_or ls y 0)) (class_reactions other ms (get_or ms (h.complexes.to y) 0))
class_correspond net other n o h ls ms l m y iy =
    let c = h.complexes in
    let p : ℕ × ℕ → Bool = λ q. get_or ls q.0 0 == get_or ls y 0 in
    let r : ℕ × ℕ → Bool = λ q. get_or ms q.0 0 == get_or ms (c.to y) 0 in
    record {
      apart = filter_distinct p net.reactions n.partial.reactions;
      inside = λ q i. (filter_from p net.reactions q i).0;
      to = class_there net other n h ls ms l m y iy;
      apart_too = filter_distinct r other.reactions o.partial.reactions;
      inside_too = λ q i. (filter_from r other.reactions q i).0;
      back = λ q i. subst (λ (x : ℕ). IsIn (c.back q.0, c.back q.1) (class_reactions net ls (get_or ls x 0))) (c.back_to y iy)
          (class_there other net o (turned_net net other n h) ms ls m l (c.to y) (c.to_below y iy) q i);
    }

-- ---- deficiencies

class_deficiency_anew : (net other : Net) → IsNetwork net → IsNetwork other → (h : IsRenumbered net other) (ls ms : List ℕ) → IsLabelled net ls → IsLabelled other ms → (y d : ℕ) → IsComplex net y
    → IsClassDeficiency net ls (get_or ls y 0) d → IsClassDeficiency other ms (get_or ms (h.complexes.to y) 0) d
class_deficiency_anew net other n o h ls ms l m y d iy is = record {
  rank = is.rank;
  rank_is = rank_moved net other n o h (class_reactions net ls (get_or ls y 0)) (class_reactions other ms (get_or ms (h.complexes.to y) 0)) (class_correspond net other n o h ls ms l m y iy) is.rank is.rank_is;
  is = omega (arith, is.is, members_anew net other n h ls ms l m y iy);
}

-- a complex of linkage class k + 1 is one of class j + 1 in the other network
record Meets (net other : Net) (h : IsRenumbered net other) (ls ms : List ℕ) (k j : ℕ) : Type 0 where
  y : ℕ
  inside : IsComplex net y
  here : get_or ls y 0 ≡ suc k
  there : get_or ms (h.complexes.to y) 0 ≡ suc j

meets_by : (net other : Net) (h : IsRenumbered net other) (ls ms : List ℕ) (k more y : ℕ) → IsComplex net y → get_or ls y 0 ≡ suc k → (v : ℕ) → get_or ms (h.complexes.to y) 0 ≡ v → 1 ≤ v → v ≤ more → (j : ℕ) × (j < more) × Meets net other h ls ms k j
meets_by net other h ls ms k more y inside here zero there some most = absurd (omega (arith, some))
meets_by net other h ls ms k more y inside here (suc j) there some most = (j, omega (arith, most), record { y = y; inside = inside; here = here; there = there })

-- the class in the other network
meets : (net other : Net) (h : IsRenumbered net other) (ls ms : List ℕ) (count more : ℕ) → IsLabelled net ls → IsLabelled other ms → IsLabelCount ls count → IsLabelCount ms more
    → (k : ℕ) → k < count → (j : ℕ) × (j < more) × Meets net other h ls ms k j
meets net other h ls ms count more l m counted counted_too k lt =
    let y = counted.each (suc k) (omega arith) lt in
    let inside : IsComplex net y.0 = omega (arith, y.1, l.long) in
    let at : h.complexes.to y.0 < length ms = omega (arith, h.complexes.to_below y.0 inside, m.long) in
    meets_by net other h ls ms k more y.0 inside y.2 (get_or ms (h.complexes.to y.0) 0) refl (m.right.positive (h.complexes.to y.0) at) (counted_too.most (h.complexes.to y.0) at)

meets_back : (net other : Net) (n : IsNetwork net) (h : IsRenumbered net other) (ls ms : List ℕ) (k j : ℕ) → Meets other net (turned_net net other n h) ms ls j k → Meets net other h ls ms k j
meets_back net other n h ls ms k j q = record {
  y = h.complexes.back q.y;
  inside = h.complexes.back_below q.y q.inside;
  here = q.there;
  there = ap (λ (x : ℕ). get_or ms x 0) (h.complexes.to_back q.y q.inside) ∙ q.here;
}

classes_in_order : (net other : Net) (d e : ℕ) (ds es : List ℕ) → IsNetwork net → IsNetwork other → IsRenumbered net other → AreDeficiencies net d ds → AreDeficiencies other e es → IsInOrder ds es
classes_in_order net other d e ds es n o h a b =
    let ls = a.labels in
    let ms = b.labels in
    let l = a.labelled in
    let m = b.labelled in
    let R : ℕ → ℕ → Type 0 = Meets net other h ls ms in
    let places = matching (length ds) (length es) R
    (meets net other h ls ms (length ds) (length es) l m a.count b.count)
    (λ j lt. let k = meets other net (turned_net net other n h) ms ls (length es) (length ds) m l b.count a.count j lt in (k.0, k.1, meets_back net other n h ls ms k.0 j k.2))
    (λ k i j lk li lj p q. let same = labels_anew net other h ls ms l m p.y q.y p.inside q.inside (p.here ∙ sym q.here) in omega (arith, same, p.there, q.there))
    (λ i k j li lk lj p q. let same = labels_back net other n h ls ms l m p.y q.y p.inside q.inside (p.there ∙ sym q.there) in omega (arith, same, p.here, q.here)) in
    record {
      places = places.numbering;
      same = λ k lt.
          let j = places.numbering.to k in
          let p = places.is k lt in
          let was : IsClassDeficiency net ls (get_or ls p.y 0) (get_or ds k 0) = subst (λ (c : ℕ). IsClassDeficiency net ls c (get_or ds k 0)) (let e : k + 1 ≡ get_or ls p.y 0 = omega (arith, p.here) in e) (a.each k lt) in
          let now : IsClassDeficiency other ms (j + 1) (get_or ds k 0) = subst (λ (c : ℕ). IsClassDeficiency other ms c (get_or ds k 0)) (let e : get_or ms (h.complexes.to p.y) 0 ≡ j + 1 = omega (arith, p.there) in e)
          (class_deficiency_anew net other n o h ls ms l m p.y (get_or ds k 0) p.inside was) in
          let there = b.each j (places.numbering.to_below k lt) in
          omega (arith, there.is, now.is, rank_is_one_number (class_vectors other ms (j + 1)) there.rank now.rank there.rank_is now.rank_is);
    }

pub numbers_are_shared : RenumberedShareNumbers
numbers_are_shared = record {
  rank = λ s. both_ways (λ net. IsRank (vectors net) s) (rank_anew s);
  deficiency = λ d. both_ways (λ net. IsDeficiency net d) (deficiency_anew d);
  classes = classes_in_order;
}

-- ---- the hypotheses

sum_total : (ds : List ℕ) → pos (sum ds) ≡ total (length ds) (λ k. pos (get_or ds k 0))
sum_total [] = refl
sum_total (d ∷ ds) = omega (arith, ints, sum_by-cons (λ (x : ℕ). x) d ds, sum_total ds)

sum_same : (ds es : List ℕ) → IsInOrder ds es → sum ds ≡ sum es
sum_same ds es h =
    let g : ℕ → ℤ = λ k. pos (get_or es k 0) in
    let each = total_same (length ds) (λ k. g (h.places.to k)) (λ k. pos (get_or ds k 0)) (λ k lt. ap pos (h.same k lt)) in
    omega (arith, ints, sum_total ds, sum_total es, each, total_renumbered (length ds) (length es) h.places g)

small_same : (ds es : List ℕ) → IsInOrder ds es → AreAtMostOne ds → AreAtMostOne es
small_same ds es h small = all_given (λ d. d ≤ 1) es 0 (λ j lt.
    let k = h.places.back j in
    let below = h.places.back_below j lt in
    let is : get_or ds k 0 ≡ get_or es j 0 = sym (h.same k below) ∙ ap (λ (i : ℕ). get_or es i 0) (h.places.to_back j lt) in
    subst (λ (d : ℕ). d ≤ 1) is (all_at (λ d. d ≤ 1) ds k 0 small below))

one_anew : (net other : Net) → IsNetwork net → IsNetwork other → IsRenumbered net other → IsDeficiencyOne net → IsDeficiencyOne other
one_anew net other n o h is =
    let has = networks_have_deficiencies other o in
    let order = classes_in_order net other is.total has.0 is.classes has.1 n o h is.deficiencies has.2 in
    let total = deficiency_is_one other has.0 is.total has.2.total_is (deficiency_anew is.total net other n o h is.deficiencies.total_is) in
    record {
      terminal = one_terminal_anew net other n o h is.terminal;
      total = has.0;
      classes = has.1;
      deficiencies = has.2;
      small = small_same is.classes has.1 order is.small;
      additive = omega (arith, sum_same is.classes has.1 order, is.additive, total);
    }

pub hypotheses_are_shared : RenumberedShareHypotheses
hypotheses_are_shared = record { zero = both_ways (λ net. IsDeficiency net 0) (deficiency_anew 0); one = both_ways IsDeficiencyOne one_anew }
