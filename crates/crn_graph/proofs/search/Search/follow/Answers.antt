use Rattle.crn_graph.proofs.Prelude.{◌≡◌, ◌+◌, ◌-◌, ◌∙◌, ap, subst, arith, found_at}
use Rattle.crn_graph.proofs.SearchLaws.{IsPast, followed_spreads, on_then, past_more}
use Rattle.crn_graph.proofs.search.Search.follow.Goals as goal

pub loop-chain-preserved : goal.loop-chain-preserved
loop-chain-preserved c =
    let s = c.args.self.now in
    let h = c.loop-chain.invariant in
    let y = found_at s s.done in
    let place = c.loop-chain.chain - 1 in
    let one : c.loop-chain.chain ≡ place + 1 = omega (arith, c.loop-chain-test.true) in
    let past : IsPast c.args.graph.now.arcs c.loop-chain.self y (place + 1) = subst (IsPast c.args.graph.now.arcs c.loop-chain.self y) one h.past in
    record {
      spreading = c.find.ensures.spreading;
      on = on_then s c.loop-chain.self c.find.new.self c.requires.spreading.some h.on c.find.ensures.on;
      done = c.find.ensures.done ∙ h.done;
      past = past_more c.args.graph.now.arcs c.loop-chain.self c.find.new.self y place c.next-chain.result past c.find.ensures.on c.find.ensures.found c.next-chain.ensures;
    }

pub returns-clause-spreading : goal.returns-clause-spreading
returns-clause-spreading c =
    let s = c.args.self.now in
    let h = c.loop-chain.invariant in
    let t = c.loop-chain.self in
    followed_spreads c.args.graph.now.arcs t (found_at s s.done) h.spreading (omega (arith, c.requires.waits, h.done, h.on.found)) (ap (found_at t) h.done ∙ h.on.queue s.done c.requires.waits)
    (λ p lt e. h.past.past p (omega (arith, c.loop-chain-test.false)) lt e)
