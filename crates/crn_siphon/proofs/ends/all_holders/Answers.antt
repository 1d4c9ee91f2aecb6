use Rattle.crn_siphon.proofs.Prelude.{◌+◌, List, sym, subst, Holders, AreAllHolders}
use Rattle.crn_siphon.proofs.Stops.{all_holders_more}
use Rattle.crn_siphon.proofs.ends.all_holders.Goals as goal

pub loop-s-preserved : goal.loop-s-preserved
loop-s-preserved c =
    let net = c.args.net.now in
    subst (λ (all : List Holders). AreAllHolders net (c.loop-s.s + 1) all) (sym c.in_ok-push.ensures.items)
    (all_holders_more net c.loop-s.s c.loop-s.all.items _ c.loop-s.invariant c.in_ok-holders_at.ensures)
