-- What the tests show of the networks that they hand to the public functions.
use Rattle.crn_defi.proofs.Prelude.{ℕ, ◌≤◌, List, [], ◌∷◌, length, refl, subst, arith, ℤ, range_with_len, KeptNums, Net, IsNetwork, IsRank, vectors, range_ascending, range_bounds, Answer, RankProof, Classes, Rank, Earlier, Q1, Q5, Q6, IsTrueOrOpen, all_vectors, AreMembers, ProvesRank, IsAnswer, GiveRank, rank_from}
use Rattle.crn_defi.proofs.Callers.{true_or_open}

-- ---- the rank

abbrev pub all_places : Net → List ℕ
all_places net = range_with_len 1 (length net.reactions)

pub are_members : (net : Net) → AreMembers net (all_places net)
are_members net = record {
  ascending = range_ascending 1 (length net.reactions);
  each = λ r i. let b = range_bounds r 1 (length net.reactions) i in (b.0, omega (arith, b.1));
}

pub rank_is : (net : Net) (proof : RankProof) → ProvesRank net (all_places net) proof → IsRank (vectors net) (length proof.base.list)
rank_is net proof h = subst (λ (vs : List (List ℤ)). IsRank vs (length proof.base.list)) (all_vectors net) h.rank

pub rank_few : (net : Net) (proof : RankProof) → IsNetwork net → ProvesRank net (all_places net) proof → length proof.base.list ≤ length net.reactions
rank_few net proof n h = let r = rank_from net net.reactions (length proof.base.list) n (λ q i. i) n.some (rank_is net proof h) in omega (arith, r.1)

-- ---- the verdict on question 6

pub six_true : (net : Net) (labels : KeptNums) (count rank : ℕ) (answer : Answer) → ((budget : ℕ) (earlier : Earlier) → GiveRank earlier labels.list count rank → IsAnswer net budget earlier Q6 answer) → IsTrueOrOpen net Q6 answer.verdict
six_true net labels count rank answer h =
    let earlier : Earlier = (Q1, Classes count labels) ∷ (Q5, Rank rank labels) ∷ [] in
    true_or_open net 1 earlier Q6 answer.verdict (h 1 earlier (record { labels_are = refl; count_is = refl; rank_is = refl })).answered
