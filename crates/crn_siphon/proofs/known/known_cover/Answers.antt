use Rattle.crn_siphon.proofs.Prelude.{arith}
use Rattle.crn_siphon.proofs.Nodes.{cover_of_by}
use Rattle.crn_siphon.proofs.known.known_cover.Goals as goal

pub returns-then-is_within : goal.returns-then-is_within
returns-then-is_within c = cover_of_by c.args.net.now c.args.set c.args.covers.now c.loop-k.k _ c.requires (omega arith) (c.is_within.ensures.0 c.if-is_within.true)
