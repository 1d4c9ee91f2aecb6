-- A decomposition that is shown to be the finest is the finest.
use Rattle.crn_indep_check.proofs.Prelude.{◌≡◌, ◌≢◌, ℕ, zero, suc, ◌+◌, ◌-◌, ◌<◌, ◌≤◌, ◌==◌, inl, inr, List, [], ◌∷◌, length, get_or, map, refl, sym, ap, subst, ◌∙◌, arith, ℤ, pos, filter, sum, AllByRecursion, range_with_len, length-map, length-range_with_len, get_or-map-range_with_len, sum_by-cons, IsIn, Net, IsNetwork, IsLabelCount, entry, IsIndependent, IsRank, chosen, vectors, at_in, range_bounds, range_ascending, Answer, RankProof, Rank, RankRows, Q5, vector_of, vectors_of, rank_tests, IsRankOf, from_zero, AreFree, AllHold, valid_answers_are_true, all_vectors, rank_is_formed, IsPart, in_part, counted, counted_all, all_reactions, label_of, part_reactions, IsIndependentDecomposition, combined, DrawsOn, AreTied, AreEvenLabels, AreLinked, IsShownForm, part_ranks, greatest, ShownDecompositionsAreFinest, ValidAnswersAreTrue, Split, Wide}
use Rattle.crn_indep_check.proofs.Greatest.{even_counts}
use Rattle.crn_indep_check.proofs.Filled.{ascending_part}
use Rattle.crn_indep_check.proofs.Stays.{Decomposed, stays}
use Rattle.crn_indep_check.proofs.PartRanks.{EvenAt, part_rank}
use Rattle.crn_indep_check.proofs.Combs.{in_or_out, out_of, Combined, combined_by}
use Rattle.crn_indep_check.proofs.Rooted.{one_part}

-- ---- the rank proof

-- the rank of all reactions is the number of the base, whose vectors are independent
rank_by_tests : (net : Net) (rank : ℕ) (proof : RankProof) (labels up depth : List ℕ) → IsNetwork net → IsShownForm net rank proof labels up depth → AllHold (rank_tests net (all_reactions net) 1 proof.base.list proof.duals proof.combs) → IsRankOf net rank proof.base.list
rank_by_tests net rank proof labels up depth n f h =
    let answer : Answer = record { verdict = Rank rank proof.base; proof = RankRows proof } in
    valid_answers_are_true Q5 net [] answer n tt tt (rank_is_formed net [] rank proof.base proof f.rank_is refl f.proof_is) h

-- members counted from 0 and from 1
vector_at : (net : Net) (r : ℕ) → 1 ≤ r → r ≤ length net.reactions → get_or (vectors net) (r - 1) [] ≡ vector_of net r
vector_at net r from to =
    let n = length net.reactions in
    let at : get_or (vectors_of net (all_reactions net)) (r - 1) [] ≡ vector_of net r = get_or-map-range_with_len (vector_of net) 1 n (r - 1) r [] (omega (arith, from, to)) (omega (arith, from)) in
    ap (λ (vs : List (List ℤ)). get_or vs (r - 1) []) (sym (all_vectors net)) ∙ at

base_vectors : (net : Net) (rs : List ℕ) → ((r : ℕ) → IsIn r rs → (1 ≤ r) × (r ≤ length net.reactions)) → chosen (from_zero rs) (vectors net) ≡ vectors_of net rs
base_vectors net [] h = refl
base_vectors net (r ∷ rs) h =
    let b = h r (inl refl) in
    ap (λ (v : List ℤ). v ∷ chosen (from_zero rs) (vectors net)) (vector_at net r b.0 b.1)
    ∙ ap (λ (vs : List (List ℤ)). vector_of net r ∷ vs) (base_vectors net rs (λ q i. h q (inr i)))

-- what the proof of a rank gives
record Given (net : Net) (proof : RankProof) : Type 0 where
  part : IsPart proof.base.list (all_reactions net)
  free : IsIndependent (vectors_of net proof.base.list)
  whole : IsRank (vectors_of net (all_reactions net)) (length proof.base.list)
  combs : (r : ℕ) → IsIn r (combined net proof) → Combined net proof r

in_bounds : (net : Net) (r : ℕ) → IsIn r (all_reactions net) → (1 ≤ r) × (r ≤ length net.reactions)
in_bounds net r i = let b = range_bounds r 1 (length net.reactions) i in (b.0, omega (arith, b.1))

given : (net : Net) (rank : ℕ) (proof : RankProof) (labels up depth : List ℕ) → IsNetwork net → IsShownForm net rank proof labels up depth → AllHold (rank_tests net (all_reactions net) 1 proof.base.list proof.duals proof.combs) → Given net proof
given net rank proof labels up depth n f h =
    let base = proof.base.list in
    let is = rank_by_tests net rank proof labels up depth n f h in
    let inside : (r : ℕ) → IsIn r base → (1 ≤ r) × (r ≤ length net.reactions) = λ r i. in_bounds net r (f.proof_is.from r i) in
    let rank_is : IsRank (vectors net) (length base) = subst (IsRank (vectors net)) (sym is.count) is.rank_is in
    record {
      part = ascending_part base (all_reactions net) f.proof_is.ascending (range_ascending 1 (length net.reactions)) f.proof_is.from;
      free = subst IsIndependent (base_vectors net base inside) is.base_is.independent;
      whole = subst (λ (vs : List (List ℤ)). IsRank vs (length base)) (sym (all_vectors net)) rank_is;
      combs = combined_by net proof (subst (λ (k : ℕ). AllByRecursion (AreFree (suc k)) proof.combs) (sym f.proof_is.long) f.proof_is.combs.each) h;
    }

-- ---- ties keep the labels of every independent decomposition

draws_stay : (net : Net) (proof : RankProof) (other others : List ℕ) → Given net proof → IsIndependentDecomposition net other others → (r q : ℕ) → DrawsOn net proof r q → label_of other r ≡ label_of other q
draws_stay net proof other others g o r q t =
    let members = all_reactions net in
    let f = vector_of net in
    let base = proof.base.list in
    let label = label_of other in
    let split : Decomposed f members label others =
    record {
      inside = λ r i.
          let b = in_bounds net r i in
          let lt : r - 1 < length other = omega (arith, b.0, b.1, o.partition.long) in
          (o.partition.positive (r - 1) lt, o.partition.count_is.most (r - 1) lt);
      parts = λ k l e lt. subst (λ (m : ℕ). IsRank (map f (filter (λ r. label r == m) members)) (get_or others k 0)) (omega (arith, e)) (o.parts k lt);
      total = subst (λ (vs : List (List ℤ)). IsRank vs (sum others)) (sym (all_vectors net)) o.total;
    } in
    let out = out_of base members r t.out in
    let c = g.combs r t.out in
    let some : entry c.on.c t.place ≢ pos 0 = λ z. t.some (sym (c.numbers t.place) ∙ z) in
    stays f members base label others g.part g.free g.whole split r c.on t.place out.0 out.1 t.inside some ∙ ap label t.member

-- ---- labels that ties keep decompose into independent parts

counts_sum : (label : ℕ → ℕ) (base : List ℕ) (k n : ℕ) → sum (map (λ l. length (filter (λ r. label r == l) base)) (range_with_len k n)) ≡ counted label base k n
counts_sum label base k zero = refl
counts_sum label base k (suc n) =
    let here : ℕ → ℕ = λ l. length (filter (λ r. label r == l) base) in
    let rest : sum (map here (range_with_len (k + 1) n)) ≡ counted label base (suc k) n = ap (λ (m : ℕ). sum (map here (range_with_len m n))) (omega arith) ∙ counts_sum label base (suc k) n in
    sum_by-cons (λ (x : ℕ). x) (here k) (map here (range_with_len (k + 1) n)) ∙ ap (λ (m : ℕ). here k + m) rest

ranks_count : (proof : RankProof) (labels : List ℕ) (count : ℕ) → length (part_ranks proof labels count) ≡ count
ranks_count proof labels count = length-map (range_with_len 1 count) (λ k. length (filter (λ r. label_of labels r == k) proof.base.list)) ∙ length-range_with_len 1 count

independent_parts : (net : Net) (proof : RankProof) (labels : List ℕ) (count : ℕ) → length labels ≡ length net.reactions → Given net proof → AreEvenLabels net proof labels → IsLabelCount labels count → IsIndependentDecomposition net labels (part_ranks proof labels count)
independent_parts net proof labels count long g even counts =
    let members = all_reactions net in
    let f = vector_of net in
    let base = proof.base.list in
    let label = label_of labels in
    let size : ℕ → ℕ = λ k. length (filter (λ r. label r == k) base) in
    let many : length (part_ranks proof labels count) ≡ count = ranks_count proof labels count in
    let even_at : (r : ℕ) → IsIn r members → EvenAt f label base r = λ r i.
    elim (in_or_out base members r i) as (λ _. EvenAt f label base r) [
      | inl j ↦ inl j
      | inr out ↦
          let c = g.combs r out in
          inr (
            c.on,
            λ i lt some.
                even.even r (get_or base i 0) (record { out = out; place = i; inside = lt; member = refl; some = λ z. some (c.numbers i ∙ z) }),
          )
    ] in
    let all : counted label base 1 count ≡ length base = counted_all label base 1 count (λ r i.
    let b = in_bounds net r (in_part base members r g.part i) in
    let lt : r - 1 < length labels = omega (arith, b.0, b.1, long) in
    (even.numbered.positive (r - 1) lt, let most = counts.most (r - 1) lt in omega (arith, most))) in
    let total : sum (part_ranks proof labels count) ≡ length base = counts_sum label base 1 count ∙ all in
    record {
      partition = record { long = long; positive = even.numbered.positive; count_is = subst (IsLabelCount labels) (sym many) counts };
      parts = λ k lt.
          let at : get_or (part_ranks proof labels count) k 0 ≡ size (k + 1) = get_or-map-range_with_len size 1 count k (k + 1) 0 (omega (arith, lt, many)) (omega arith) in
          subst (IsRank (vectors_of net (part_reactions net labels (k + 1)))) (sym at) (part_rank f members base label g.part g.free even_at (k + 1));
      total = subst (λ (vs : List (List ℤ)). IsRank vs (sum (part_ranks proof labels count))) (all_vectors net) (subst (IsRank (vectors_of net members)) (sym total) g.whole);
    }

-- ---- all together

tie_keeps : (net : Net) (proof : RankProof) (label : ℕ → ℕ) → ((r q : ℕ) → DrawsOn net proof r q → label r ≡ label q) → (r q : ℕ) → AreTied net proof r q → label r ≡ label q
tie_keeps net proof label keeps r q (inl t) = keeps r q t
tie_keeps net proof label keeps r q (inr t) = sym (keeps q r t)

drawn_in : (net : Net) (proof : RankProof) → Given net proof → (r q : ℕ) → DrawsOn net proof r q → IsIn r (all_reactions net) × IsIn q (all_reactions net)
drawn_in net proof g r q t =
    let base = proof.base.list in
    let i : IsIn q base = subst (λ (k : ℕ). IsIn k base) t.member (at_in base t.place 0 t.inside) in
    ((out_of base (all_reactions net) r t.out).0, in_part base (all_reactions net) q g.part i)

tied_in : (net : Net) (proof : RankProof) → Given net proof → (r q : ℕ) → AreTied net proof r q → (1 ≤ q) × (q ≤ length net.reactions)
tied_in net proof g r q (inl t) = in_bounds net q (drawn_in net proof g r q t).1
tied_in net proof g r q (inr t) = in_bounds net q (drawn_in net proof g q r t).0

pub shown_are_finest : ShownDecompositionsAreFinest
shown_are_finest net rank proof labels up depth count n f h counts =
    let base = proof.base.list in
    let even : AreEvenLabels net proof labels = h.even in
    let linked : AreLinked net proof labels up depth = h.linked in
    let g = given net rank proof labels up depth n f h.ranks in
    let long : length labels ≡ length net.reactions = f.labels_are.long in
    record {
      independent = independent_parts net proof labels count long g even counts;
      numbered = record { positive = even.numbered.positive; numbered = even.numbered.numbered; count_is = subst (IsLabelCount labels) (sym (ranks_count proof labels count)) counts };
      finest = λ other others o j k lj lk e.
          one_part net proof labels other up depth (length net.reactions) linked (tied_in net proof g)
          (tie_keeps net proof (label_of labels) even.even)
          (tie_keeps net proof (label_of other) (draws_stay net proof other others g o))
          j k (omega (arith, lj, long)) (omega (arith, lk, long)) e;
    }

-- ---- answers

pub valid_are_true : ValidAnswersAreTrue
valid_are_true net (Split rank label up depth) n f v = shown_are_finest net (length rank.base.list) rank label.list up.list depth.list (greatest label.list) n f v (even_counts label.list (let e = v.even in e.count) (let e = v.even in e.numbered))
valid_are_true net (Wide index basis) n f v = tt
