-- What true verdicts say of linkage classes, strong classes and the rank.
use Rattle.crn_robust.proofs.Prelude.{◌≡◌, ◌⊎◌, ℕ, ◌+◌, ◌≤◌, inl, inr, length, refl, arith, KeptNums, Net, IsNetwork, IsRank, vectors, IsDeficiency, Verdict, Classes, Strong, Rank, Unknown, Q1, Q2, Q5, IsOpen, count_of, labels_of, exits_of, IsTrueOf, AreLinkageClasses, IsTrueOrOpen, number_of_classes, rank_leaves, HasStrong}

linkage_known : (net : Net) (v : Verdict) → IsTrueOf net Q1 v → AreLinkageClasses net (count_of v) (labels_of v)
linkage_known net (Classes count label) h = h
linkage_known net v h = absurd h

-- how many linkage classes there are leaves room for the rank
pub classes_leave : (net : Net) (v : Verdict) (s : ℕ) → IsNetwork net → IsTrueOf net Q1 v → IsRank (vectors net) s → count_of v + s ≤ length net.complexes
classes_leave net v s n t r =
    let h = linkage_known net v t in
    rank_leaves net (count_of v) s (labels_of v) n h.labelled h.count_is r

pub deficiency_by : (net : Net) (v : Verdict) (s d : ℕ) → IsTrueOf net Q1 v → IsRank (vectors net) s → d + count_of v + s ≡ length net.complexes → IsDeficiency net d
deficiency_by net v s d t r e =
    let h = linkage_known net v t in
    record {
      classes = count_of v;
      rank = s;
      classes_are = number_of_classes net (count_of v) (labels_of v) h.labelled h.count_is;
      rank_is = r;
      is = e;
    }

-- ---- strong classes

pub strong_known : (net : Net) (v : Verdict) → IsTrueOf net Q2 v → HasStrong net (labels_of v) (exits_of v)
strong_known net (Strong count terminal label exit) h = record {
  long = h.places;
  classes = λ y lt. (h.right.positive y lt, omega (arith, h.count_is.most y lt, h.classes));
  exits_are = h.exits_are;
}
strong_known net v h = absurd h

-- ---- the rank

rank_or_open : (net : Net) (v : Verdict) → IsTrueOrOpen net Q5 v → IsOpen v ⊎ ((rank : ℕ) × (base : KeptNums) × (v ≡ Rank rank base) × IsRank (vectors net) rank)
rank_or_open net (Unknown gap) h = inl tt
rank_or_open net (Rank rank base) h = inr (rank, base, refl, h.rank_is)
rank_or_open net v h = absurd h

-- a verdict that is a rank gives the rank
pub rank_in : (net : Net) (rank : ℕ) (base : KeptNums) → IsTrueOrOpen net Q5 (Rank rank base) → IsRank (vectors net) rank
rank_in net rank base h = h.rank_is

-- and one that is none is open
pub open_if_other : (net : Net) (v : Verdict) → ((rank : ℕ) (base : KeptNums) → v ≡ Rank rank base → ⊥) → IsTrueOrOpen net Q5 v → IsOpen v
open_if_other net v other h = elim (rank_or_open net v h) as (λ _. IsOpen v) [
  | inl o ↦ o
  | inr r ↦ absurd (other r.0 r.1 r.2)
]
