use Rattle.crn_text.proofs.Prelude.{arith, length, ◌<◌, take_all, err_from_is_err_and, WroteAll-step, WrotePrefix-step, Wrote-all, Wrote-prefix, flat_map_step, flat_map_whole, reaction_line}
use Rattle.crn_text.proofs.writer.write.Goals as goal

pub loop-r-preserved : goal.loop-r-preserved
loop-r-preserved g c =
    let lt : c.loop-r.r < length c.args.net.now.reactions = omega arith in
    WroteAll-step (flat_map_step (reaction_line c.args.net.now) c.args.net.now.reactions c.loop-r.r (0, 0) lt) c.loop-r.invariant c.in_ok-put_reaction.ensures.all

pub returns-in_err-put_reaction : goal.returns-in_err-put_reaction
returns-in_err-put_reaction g c =
    let lt : c.loop-r.r < length c.args.net.now.reactions = omega arith in
    let p = err_from_is_err_and c.from_residual.result c.from_residual.ensures.1 in
    Wrote-prefix p.1 (WrotePrefix-step _ (flat_map_whole (reaction_line c.args.net.now) c.args.net.now.reactions c.loop-r.r (0, 0) lt) c.loop-r.invariant c.in_err-put_reaction.ensures.prefix)

pub returns : goal.returns
returns g c = Wrote-all (rw (take_all c.loop-r.r c.args.net.now.reactions (omega arith)) at c.loop-r.invariant)
