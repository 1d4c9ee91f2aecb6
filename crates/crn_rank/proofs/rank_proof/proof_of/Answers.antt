use Rattle.crn_rank.proofs.Proven.{proves_at}
use Rattle.crn_rank.proofs.rank_proof.proof_of.Goals as goal

pub returns-clause-proof : goal.returns-clause-proof
returns-clause-proof c =
    proves_at c.args.tableau.now.matrix c.args._net.now c.args.members.now c.args.tableau.now.basis _ c.requires.matrix c.requires.members c.names_rows.ensures c.requires.entered
    c.entered_rows_give_the_rank.ensures
    (record { base = c.in_ok-base.ensures; duals = c.in_ok-duals.ensures.duals; combs = c.in_ok-combs.ensures })
