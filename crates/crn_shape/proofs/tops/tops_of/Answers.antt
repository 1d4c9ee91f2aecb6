use Rattle.crn_shape.proofs.Prelude.{arith, top_for, map_more}
use Rattle.crn_shape.proofs.tops.tops_of.Goals as goal

pub loop-c-preserved : goal.loop-c-preserved
loop-c-preserved c =
    map_more (top_for c.args.exits.now) c.args.labels.now c.loop-c.c 0 c.loop-c.tops.items c.push.new.self.items c.top_for.result (omega (arith, c.loop-c-test.true)) c.loop-c.invariant c.in_ok-push.ensures.items c.top_for.ensures
