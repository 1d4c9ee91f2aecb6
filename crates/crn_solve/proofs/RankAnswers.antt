-- The answer on the rank that a proof or a stop gives.
use Rattle.crn_solve.proofs.Prelude.{◌≡◌, ℕ, ◌≤◌, List, length, refl, sym, ap, subst, arith, ℤ, KeptNums, Net, IsNetwork, Mat, NamesWide, species_system, MAX_REACTIONS, Answer, RankProof, Verdict, Rank, Proof, RankRows, Earlier, Q5, IsFormed, IsWideGap, IsValid, valid_answers_are_true, all_vectors, rank_is_formed, ProvesRank, member_matrix, IsAnswer, IsRankAnswer, vectors_count, all_places, rank_is, wide_basis, plain, WideGap, Unknown}
use Rattle.crn_solve.proofs.Ranks.{rank_from}

pub base_few : (net : Net) (proof : RankProof) → IsNetwork net → ProvesRank net (all_places net) proof → length proof.base.list ≤ MAX_REACTIONS
base_few net proof n h = let r = rank_from net (length proof.base.list) n (rank_is net proof h) in omega (arith, r.1, n.partial.reactions_limit)

given : (net : Net) (budget : ℕ) (earlier : Earlier) (proof : RankProof) (base : KeptNums) → IsNetwork net → ProvesRank net (all_places net) proof → base.list ≡ proof.base.list → IsAnswer net budget earlier Q5 (record { verdict = Rank (length proof.base.list) base; proof = RankRows proof })
given net budget earlier proof base n h same =
    let answer : Answer = record { verdict = Rank (length proof.base.list) base; proof = RankRows proof } in
    let formed : IsFormed net earlier Q5 answer =
    rank_is_formed net earlier (length proof.base.list) base proof (rank_from net (length proof.base.list) n (rank_is net proof h)) same h.formed in
    let valid : IsValid net earlier Q5 answer = h.holds 1 in
    record { formed = formed; valid = valid; answered = valid_answers_are_true Q5 net earlier answer n tt tt formed valid }

pub rank_given : (net : Net) (budget : ℕ) (earlier : Earlier) (proof : RankProof) (answer : Answer) → IsNetwork net → ProvesRank net (all_places net) proof → IsRankAnswer proof answer → IsAnswer net budget earlier Q5 answer
rank_given net budget earlier proof answer n h g =
    let first : IsAnswer net budget earlier Q5 (record { verdict = Rank (length proof.base.list) g.base; proof = RankRows proof }) = given net budget earlier proof g.base n h g.same in
    let second = subst (λ (v : Verdict). IsAnswer net budget earlier Q5 (record { verdict = v; proof = RankRows proof })) (sym g.verdict) first in
    subst (λ (p : Proof). IsAnswer net budget earlier Q5 (record { verdict = answer.verdict; proof = p })) (sym g.proof_is) second

-- system 1 has the vectors of all reactions as its rows
pub all_members : (net : Net) → member_matrix net (all_places net) ≡ species_system net
all_members net = ap (λ (rows : List (List ℤ)). let a : Mat = record { cols = length net.names; rows = rows } in a) (all_vectors net)

pub rank_wide : (net : Net) (budget : ℕ) (earlier : Earlier) (index : ℕ) (basis : KeptNums) → NamesWide (member_matrix net (all_places net)) index basis.list → IsAnswer net budget earlier Q5 (plain (Unknown (WideGap 1 0 index basis)))
rank_wide net budget earlier index basis h =
    let wide : NamesWide (species_system net) index basis.list = subst (λ (a : Mat). NamesWide a index basis.list) (all_members net) h in
    let gap : IsWideGap net earlier Q5 1 0 index basis.list = ((refl, refl, wide_basis (species_system net) (length net.names) (length net.reactions) index basis.list refl (vectors_count net) wide), tt) in
    record { formed = (record { head = gap; rows = tt; trees = tt }, (refl, refl)); valid = tt; answered = (gap, wide) }
