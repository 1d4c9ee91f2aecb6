use Rattle.crn_graph.proofs.Prelude.{◌≡◌, ◌-◌, ◌∙◌, refl, sym, ap, arith, get_or_read, open_at, rest_at}
use Rattle.crn_graph.proofs.RankFollowed.{dropped_ranks}
use Rattle.crn_graph.proofs.RankCalls.{open_end, held_room}
use Rattle.crn_graph.proofs.ranks.Ranking.go_on.Goals as goal

pub index-y-requires : goal.index-y-requires
index-y-requires c =
    let s = c.args.self.now in
    let h = c.requires.ranking in
    let room = held_room c.args.graph.now.arcs s h in
    omega (arith, room.0, room.2, h.long.waiting, c.requires.last.some)

pub index-requires : goal.index-requires
index-requires c =
    let s = c.args.self.now in
    let h = c.requires.ranking in
    let arcs = c.args.graph.now.arcs in
    let room = held_room arcs s h in
    let read = get_or_read s.waiting.items (s.left - 1) c.index-y.result.now (omega (arith, room.0, room.2, h.long.waiting, c.requires.last.some)) c.index-y.ensures 0 in
    let end = open_end arcs s h c.requires.last in
    omega (arith, read, end.1, h.long.rest)

pub returns-then-index-eq0 : goal.returns-then-index-eq0
returns-then-index-eq0 c =
    let s = c.args.self.now in
    let h = c.requires.ranking in
    let arcs = c.args.graph.now.arcs in
    let room = held_room arcs s h in
    let at = get_or_read s.waiting.items (s.left - 1) c.index-y.result.now (omega (arith, room.0, room.2, h.long.waiting, c.requires.last.some)) c.index-y.ensures 0 in
    let end = open_end arcs s h c.requires.last in
    let read = get_or_read s.rest.items c.index-y.result.now c.index.result.now (omega (arith, at, end.1, h.long.rest)) c.index.ensures 0 in
    let none : rest_at s (open_at s (s.left - 1)) ≡ 0 = ap (rest_at s) (sym at) ∙ sym read ∙ c.if-index-eq0.true in
    record {
      ranking = dropped_ranks arcs s h c.requires.last.some none;
      keeps = record { long = refl; reached = λ y le. le };
      less = omega (arith, c.requires.last.some);
    }

pub follow-requires-clause-here : goal.follow-requires-clause-here
follow-requires-clause-here c =
    let s = c.args.self.now in
    let h = c.requires.ranking in
    let room = held_room c.args.graph.now.arcs s h in
    get_or_read s.waiting.items (s.left - 1) c.index-y.result.now (omega (arith, room.0, room.2, h.long.waiting, c.requires.last.some)) c.index-y.ensures 0

pub follow-requires-clause-more : goal.follow-requires-clause-more
follow-requires-clause-more c =
    let s = c.args.self.now in
    let h = c.requires.ranking in
    let arcs = c.args.graph.now.arcs in
    let room = held_room arcs s h in
    let at = get_or_read s.waiting.items (s.left - 1) c.index-y.result.now (omega (arith, room.0, room.2, h.long.waiting, c.requires.last.some)) c.index-y.ensures 0 in
    let end = open_end arcs s h c.requires.last in
    let read = get_or_read s.rest.items c.index-y.result.now c.index.result.now (omega (arith, at, end.1, h.long.rest)) c.index.ensures 0 in
    omega (arith, read, c.if-index-eq0.false)
