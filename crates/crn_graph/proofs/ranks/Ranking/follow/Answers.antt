use Rattle.crn_graph.proofs.Prelude.{◌≡◌, ◌<◌, ◌+◌, ◌-◌, ℕ, List, length, get_or, refl, ap, arith, sum_by, get_or_read, rest_at}
use Rattle.crn_graph.proofs.RankFollowed.{IsTaken, took_ranks, took_less}
use Rattle.crn_graph.proofs.RankCalls.{last_inside, head_arc}
use Rattle.crn_graph.proofs.ranks.Ranking.follow.Goals as goal

pub index-requires : goal.index-requires
index-requires c =
    let h = c.requires.ranking in
    omega (arith, last_inside c.args.graph.now.arcs c.args.self.now c.args.y h c.requires.last c.requires.here, h.long.rest)

pub come-requires-clause-inside : goal.come-requires-clause-inside
come-requires-clause-inside c =
    let s = c.args.self.now in
    let h = c.requires.ranking in
    let lt = last_inside c.args.graph.now.arcs s c.args.y h c.requires.last c.requires.here in
    let read = get_or_read s.rest.items c.args.y c.index.result.now (omega (arith, lt, h.long.rest)) c.index.ensures 0 in
    (head_arc c.args.graph.now.arcs s c.args.y (c.index.result.now - 1) h lt (omega (arith, read, c.requires.more))).0

pub come-requires-clause-from : goal.come-requires-clause-from
come-requires-clause-from c =
    let s = c.args.self.now in
    let h = c.requires.ranking in
    let lt = last_inside c.args.graph.now.arcs s c.args.y h c.requires.last c.requires.here in
    let read = get_or_read s.rest.items c.args.y c.index.result.now (omega (arith, lt, h.long.rest)) c.index.ensures 0 in
    (head_arc c.args.graph.now.arcs s c.args.y (c.index.result.now - 1) h lt (omega (arith, read, c.requires.more))).1

pub next-requires : goal.next-requires
next-requires c =
    let s = c.args.self.now in
    let h = c.requires.ranking in
    let lt = last_inside c.args.graph.now.arcs s c.args.y h c.requires.last c.requires.here in
    let read = get_or_read s.rest.items c.args.y c.index.result.now (omega (arith, lt, h.long.rest)) c.index.ensures 0 in
    (head_arc c.args.graph.now.arcs s c.args.y (c.index.result.now - 1) h lt (omega (arith, read, c.requires.more))).0

pub index_mut-requires : goal.index_mut-requires
index_mut-requires c =
    let h = c.requires.ranking in
    omega (arith, last_inside c.args.graph.now.arcs c.args.self.now c.args.y h c.requires.last c.requires.here, h.long.rest, ap length c.come.ensures.rest)

pub returns : goal.returns
returns c =
    let s = c.args.self.now in
    let t = c.come.new.self in
    let arcs = c.args.graph.now.arcs in
    let y = c.args.y in
    let place = c.index.result.now - 1 in
    let next = c.next.result in
    let h = c.requires.ranking in
    let e = c.come.ensures in
    let ls = last_inside arcs s y h c.requires.last c.requires.here in
    let lt : y < length t.rank.items = omega (arith, ls, e.keeps.long) in
    let read = get_or_read s.rest.items y c.index.result.now (omega (arith, ls, h.long.rest)) c.index.ensures 0 in
    let more : rest_at t y ≡ place + 1 = omega (arith, ap (λ (l : List ℕ). get_or l y 0) e.rest, read, c.requires.more) in
    let taken : IsTaken arcs t y place next = record { old = e.ranking; inside = lt; on = e.on; waits = e.waits; more = more; settled = e.settled; is = c.next.ensures } in
    record {
      ranking = took_ranks arcs t _ y place next taken refl;
      keeps = record { long = e.keeps.long; reached = e.keeps.reached };
      less = let sum = took_less t _ y place next (omega (arith, lt, e.ranking.long.rest)) more c.next.ensures.inside refl in let rest = ap (sum_by (λ (k : ℕ). k)) e.rest in omega (arith, sum, e.few, rest);
    }
