use Rattle.crn_graph.proofs.Prelude.{◌≡◌, ◌+◌, ◌-◌, ◌<◌, length, get_or, set, refl, subst, ap, ◌∙◌, arith, get_or_read, with_item, Ranking, path_at, HasClosed}
use Rattle.crn_graph.proofs.RankCalls.{closed_none, closed_more}
use Rattle.crn_graph.proofs.ranks.Ranking.close.Goals as goal

pub loop-self-init : goal.loop-self-init
loop-self-init c =
    let s = c.args.self.now in
    let read = get_or_read s.start.items (s.parts - 1) c.index-first.result.now (omega (arith, c.requires.some, c.requires.room)) c.index-first.ensures 0 in
    record {
      rest = refl;
      low = omega (arith, read, c.requires.inside);
      high = omega arith;
      closed = closed_none s _ (s.count + 1) refl;
    }

pub loop-self-preserved : goal.loop-self-preserved
loop-self-preserved c =
    let s = c.args.self.now in
    let t = c.loop-self.self in
    let h = c.loop-self.invariant in
    let low = t.held - 1 in
    let y = c.index-y.result.now in
    let held : t.held ≡ low + 1 = omega (arith, c.loop-self-test.true) in
    let lt : low < s.held = omega (arith, held, h.high) in
    let path = ap (λ (x : Ranking). x.path.items) h.rest in
    let count : t.count ≡ s.count + 1 = ap (λ (x : Ranking). x.count) h.rest in
    let size = ap length path in
    let read = get_or_read t.path.items low y (omega (arith, lt, size, c.requires.held, c.requires.lists.path)) c.index-y.ensures 0 in
    let at : y ≡ path_at s low = read ∙ ap (λ l. get_or l low 0) path in
    record {
      rest = ap (λ (x : Ranking). record x { held = low; rank = with_item t.rank y t.count }) h.rest;
      low = omega (arith, held, c.loop-self-test.true);
      high = omega (arith, lt);
      closed = closed_more s t _ low (s.count + 1) y c.requires.path (subst (λ k. HasClosed s t k (s.count + 1)) held h.closed) lt (omega arith) at (ap (λ r. set t.rank.items y r) count);
    }
