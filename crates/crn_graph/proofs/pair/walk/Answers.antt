use Rattle.crn_graph.proofs.Prelude.{◌<◌, length, arith, get_or_read, depth_at}
use Rattle.crn_graph.proofs.PairLaws.{walk_step, walk_more, walk_ended}
use Rattle.crn_graph.proofs.pair.walk.Goals as goal

pub back-smaller : goal.back-smaller
back-smaller c =
    let s = c.args.search.now in
    let h = c.requires.searched in
    let its = c.back.invariant.its in
    let lt : c.back.c < length s.up.items = omega (arith, h.inside c.back.c its, h.long.up, h.places) in
    let read = get_or_read s.up.items c.back.c c.index.result.now lt c.index.ensures 0 in
    let again = get_or_read s.up.items c.back.c c.index-in-back.result.now lt c.index-in-back.ensures 0 in
    let step = walk_step c.args.net.now s c.back.c c.index-in-back.result.now c.other_end-c.result h its again (omega (arith, read, again, c.back-test.true)) c.other_end-c.ensures.other in
    let less : depth_at s c.other_end-c.result < depth_at s c.back.c = omega (arith, step.deeper) in
    less

pub back-preserved : goal.back-preserved
back-preserved c =
    let s = c.args.search.now in
    let h = c.requires.searched in
    let its = c.back.invariant.its in
    let lt : c.back.c < length s.up.items = omega (arith, h.inside c.back.c its, h.long.up, h.places) in
    let read = get_or_read s.up.items c.back.c c.index.result.now lt c.index.ensures 0 in
    let again = get_or_read s.up.items c.back.c c.index-in-back.result.now lt c.index-in-back.ensures 0 in
    let step = walk_step c.args.net.now s c.back.c c.index-in-back.result.now c.other_end-c.result h its again (omega (arith, read, again, c.back-test.true)) c.other_end-c.ensures.other in
    rw c.in_ok-push-2.ensures.ok (walk_more c.args.net.now s c.args.from c.back.c c.other_end-c.result c.back.steps.list h c.back.invariant step)

pub returns : goal.returns
returns c =
    let s = c.args.search.now in
    let h = c.requires.searched in
    let lt : c.back.c < length s.up.items = omega (arith, h.inside c.back.c c.back.invariant.its, h.long.up, h.places) in
    let read = get_or_read s.up.items c.back.c c.index.result.now lt c.index.ensures 0 in
    record { back = walk_ended c.args.net.now s c.args.from c.back.c c.back.steps.list h c.back.invariant (omega (arith, read, c.back-test.false)) }
