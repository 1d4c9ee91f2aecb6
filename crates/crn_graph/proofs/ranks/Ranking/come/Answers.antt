use Rattle.crn_graph.proofs.Prelude.{◌<◌, ◌-◌, ℕ, length, sym, ap, subst, arith, get_or_read, Arc, Ranking, HasCome, HasMerged, start_at}
use Rattle.crn_graph.proofs.RankCalls.{at_end, come_new, come_joined, come_ranked, enter_room, held_room}
use Rattle.crn_graph.proofs.ranks.Ranking.come.Goals as goal

pub enter-requires : goal.enter-requires
enter-requires c =
    let s = c.args.self.now in
    let z = c.arc-z.result.to in
    let lt : z < length s.rank.items = omega (arith, c.arc-z.ensures.to, c.requires.long) in
    let read = get_or_read s.place.items z c.index.result.now (omega (arith, lt, c.requires.ranking.long.place)) c.index.ensures 0 in
    let room = enter_room c.args.graph.now.arcs s z c.requires.ranking lt (omega (arith, read, c.if-index-eq0.true)) in
    record { inside = room.place; path = room.path; start = room.start; opened = room.waiting }

pub returns-then-index-eq0 : goal.returns-then-index-eq0
returns-then-index-eq0 c =
    let s = c.args.self.now in
    let arcs = c.args.graph.now.arcs in
    let y = c.args.y in
    let z = c.arc-z.result.to in
    let lt : z < length s.rank.items = omega (arith, c.arc-z.ensures.to, c.requires.long) in
    let read = get_or_read s.place.items z c.index.result.now (omega (arith, lt, c.requires.ranking.long.place)) c.index.ensures 0 in
    let end = at_end arcs s y z c.args.place c.requires.ranking c.requires.last c.requires.some c.requires.here c.requires.inside c.requires.from (ap (λ (a : Arc). a.to) c.arc-z.ensures.value) lt in
    subst (HasCome arcs s c.enter.new.self y) (ap (λ (a : Arc). a.to) c.arc-z.ensures.value) (come_new arcs s c.enter.new.self y z end (omega (arith, read, c.if-index-eq0.true)) c.enter.ensures)

pub returns-then-index-gt0 : goal.returns-then-index-gt0
returns-then-index-gt0 c =
    let s = c.args.self.now in
    let arcs = c.args.graph.now.arcs in
    let y = c.args.y in
    let z = c.arc-z.result.to in
    let lt : z < length s.rank.items = omega (arith, c.arc-z.ensures.to, c.requires.long) in
    let rank = get_or_read s.rank.items z c.index-2.result.now lt c.index-2.ensures 0 in
    let end = at_end arcs s y z c.args.place c.requires.ranking c.requires.last c.requires.some c.requires.here c.requires.inside c.requires.from (ap (λ (a : Arc). a.to) c.arc-z.ensures.value) lt in
    subst (HasCome arcs s s y) (ap (λ (a : Arc). a.to) c.arc-z.ensures.value) (come_ranked arcs s y z end (omega (arith, rank, c.if-index-gt0.true)))

pub join-requires : goal.join-requires
join-requires c =
    let s = c.args.self.now in
    let z = c.arc-z.result.to in
    let h = c.requires.ranking in
    let lt : z < length s.place.items = omega (arith, c.arc-z.ensures.to, c.requires.long, h.long.place) in
    let read = get_or_read s.place.items z c.index.result.now lt c.index.ensures 0 in
    let again = get_or_read s.place.items z c.index-first.result.now lt c.index-first.ensures 0 in
    let room = held_room c.args.graph.now.arcs s h in
    let first = h.parts.first c.requires.some in
    record {
      some = c.requires.some;
      first = omega (arith, first, read, again, c.if-index-eq0.false);
      room = omega (arith, room.0, room.1, h.long.start);
    }

pub returns : goal.returns
returns c =
    let s = c.args.self.now in
    let arcs = c.args.graph.now.arcs in
    let y = c.args.y in
    let z = c.arc-z.result.to in
    let n = c.join.new.self.parts in
    let lt : z < length s.rank.items = omega (arith, c.arc-z.ensures.to, c.requires.long) in
    let lp : z < length s.place.items = omega (arith, lt, c.requires.ranking.long.place) in
    let read = get_or_read s.place.items z c.index.result.now lp c.index.ensures 0 in
    let rank = get_or_read s.rank.items z c.index-2.result.now lt c.index-2.ensures 0 in
    let again = get_or_read s.place.items z c.index-first.result.now lp c.index-first.ensures 0 in
    let end = at_end arcs s y z c.args.place c.requires.ranking c.requires.last c.requires.some c.requires.here c.requires.inside c.requires.from (ap (λ (a : Arc). a.to) c.arc-z.ensures.value) lt in
    let joined = subst (λ (p : ℕ). HasMerged p s n) again c.join.ensures.merged in
    let low = subst (λ (p : ℕ). start_at s (n - 1) < p) again c.join.ensures.last in
    let come = come_joined arcs s y z n end (omega (arith, read, c.if-index-eq0.false), omega (arith, rank, c.if-index-gt0.false)) joined low in
    subst (HasCome arcs s c.join.new.self y) (ap (λ (a : Arc). a.to) c.arc-z.ensures.value) (subst (λ (t : Ranking). HasCome arcs s t y z) (sym c.join.ensures.rest) come)
