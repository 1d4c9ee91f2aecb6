use Rattle.crn_check.proofs.Prelude.{ℕ, length, sym, subst, range_with_len, IsRankProof, rank_formed}
use Rattle.crn_check.proofs.ranks.check_rank.Goals as goal

pub check_rank_proof-requires-clause-proof : goal.check_rank_proof-requires-clause-proof
check_rank_proof-requires-clause-proof c =
    let net = c.args.net.now in
    let proof = c.in-Rank-Rank.proof in
    let formed = rw (c.in-Rank-Rank.is-0, c.in-Rank-Rank.is-1) at c.requires.formed in
    let r = rank_formed net formed.0 c.in-Rank-Rank.rank-0 c.in-Rank-Rank.base-0 proof formed.1 in
    subst (λ (n : ℕ). IsRankProof net (range_with_len 1 (length net.reactions)) n proof) (sym r.long) r

pub returns-in-Rank-Rank : goal.returns-in-Rank-Rank
returns-in-Rank-Rank c = rw (c.in-Rank-Rank.is-0, c.in-Rank-Rank.is-1) c.check_rank_proof.ensures
