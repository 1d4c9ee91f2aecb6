use Rattle.crn_graph.proofs.Prelude.{◌<◌, ◌-◌, sym, subst, arith, Ranking, IsRanking, KeepsPlaces, weight}
use Rattle.crn_graph.proofs.RankClosed.{closed_class, class_ranks}
use Rattle.crn_graph.proofs.RankCalls.{held_room, open_inside, count_room}
use Rattle.crn_graph.proofs.ranks.Ranking.step.Goals as goal

pub is_open-requires : goal.is_open-requires
is_open-requires c =
    let s = c.args.self.now in
    let h = c.requires.ranking in
    let arcs = c.args.graph.now.arcs in
    let room = held_room arcs s h in
    record { lists = h.long; some = c.requires.some; parts = omega (arith, room.0, room.1); left = omega (arith, room.0, room.2); inside = λ i lt. open_inside arcs s i h lt }

pub close-requires : goal.close-requires
close-requires c =
    let s = c.args.self.now in
    let h = c.requires.ranking in
    let arcs = c.args.graph.now.arcs in
    let room = held_room arcs s h in
    let count = count_room arcs s h c.requires.some in
    record {
      lists = h.long;
      path = h.path;
      some = c.requires.some;
      room = omega (arith, room.0, room.1, h.long.start);
      held = room.0;
      inside = let i = h.parts.inside (s.parts - 1) (omega (arith, c.requires.some)) in omega (arith, i.1);
      few = omega (arith, count, c.requires.long, c.requires.small);
    }

pub returns : goal.returns
returns c =
    let s = c.args.self.now in
    let t = c.close.new.self in
    let arcs = c.args.graph.now.arcs in
    let e = c.close.ensures in
    let is = closed_class arcs s t c.requires.ranking c.requires.some (λ o. cc (c.is_open.ensures.1 o, c.if-is_open.false)) e.closed in
    record {
      ranking = subst (IsRanking arcs) (sym e.rest) (class_ranks arcs s t.rank is);
      keeps = subst (KeepsPlaces s) (sym e.rest) (record { long = e.closed.long; reached = λ y le. le });
      less = subst (λ (u : Ranking). weight u < weight s) (sym e.rest) (omega (arith, c.requires.some));
    }
