use Rattle.crn_siphon.proofs.Prelude.{arith}
use Rattle.crn_siphon.proofs.Nodes.{law_within_by}
use Rattle.crn_siphon.proofs.known.known_law.Goals as goal

pub returns-then-is_within : goal.returns-then-is_within
returns-then-is_within c = law_within_by c.args.net.now c.args.set c.args.laws.now c.loop-k.k _ c.requires (omega arith) (c.is_within.ensures.0 c.if-is_within.true)
