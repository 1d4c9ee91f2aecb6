use Rattle.crn_check.proofs.Prelude.{ℕ, List, length, sym, subst, rank_tests, IsRankProof, Judges}
use Rattle.crn_check.proofs.BaseForms.{all_members}
use Rattle.crn_check.proofs.ranks.check_rank_proof.Goals as goal

pub check_members-requires-clause-proof : goal.check_members-requires-clause-proof
check_members-requires-clause-proof c =
    let net = c.args.net.now in
    let proof = c.args.proof.now in
    subst (λ (ms : List ℕ). IsRankProof net ms (length proof.base.list) proof) (sym (all_members net)) c.requires.proof

pub returns : goal.returns
returns c =
    let net = c.args.net.now in
    let proof = c.args.proof.now in
    subst (λ (ms : List ℕ). Judges (rank_tests net ms c.args.part proof.base.list proof.duals proof.combs) c.check_members.result) (all_members net) c.check_members.ensures
