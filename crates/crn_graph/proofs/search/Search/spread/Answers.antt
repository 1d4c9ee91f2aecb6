use Rattle.crn_graph.proofs.Prelude.{◌≡◌, ◌<◌, suc, set, length, refl, arith, zeros}
use Rattle.crn_graph.proofs.SearchLaws.{written, zeros-set, begun_spreads, begun_keeps}
use Rattle.crn_graph.proofs.search.Search.spread.Goals as goal

pub loop-self-init : goal.loop-self-init
loop-self-init c =
    let s = c.args.self.now in
    let start = c.args.start in
    let label = c.args.label in
    let long = c.requires.ready.long in
    let lt : start < length s.label.items = omega (arith, c.requires.inside, c.requires.long) in
    let fewer : suc (zeros (set s.label.items start label)) ≡ zeros s.label.items = zeros-set s.label.items start label lt c.requires.free c.requires.ready.some in
    let labels = written s.label.items start label lt in
    let ups = written s.up.items start 0 (omega (arith, lt, long.up)) in
    let depths = written s.depth.items start 0 (omega (arith, lt, long.depth)) in
    let queues = written s.queue.items 0 start (omega (arith, lt, long.queue)) in
    record {
      spreading = begun_spreads c.args.graph.now.arcs s _ start label c.requires.ready lt (record { labels = labels; ups = ups; depths = depths; queues = queues; fewer = fewer; found = refl; done = refl; newest = refl });
      keeps = begun_keeps s _ start label c.requires.free (record { labels = labels; ups = ups; depths = depths; queues = queues; fewer = fewer; found = refl; done = refl; newest = refl });
      newest = refl;
      start = queues.here;
      count = omega (arith, fewer);
    }
