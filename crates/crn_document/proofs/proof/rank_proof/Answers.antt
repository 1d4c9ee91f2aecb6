use Rattle.crn_document.proofs.Prelude.{refl}
use Rattle.crn_document.proofs.Ranks.{rank_pieces}
use Rattle.crn_document.proofs.proof.rank_proof.Goals as goal

pub returns : goal.returns
returns c = rank_pieces c.args.rows.now c.args.i c.args.rank _ c.args.end _ refl c.requires.rank c.requires.inside c.in_ok-nums_at.ensures c.in_ok-some_rows.ensures c.in_ok-some_rows-2.ensures
