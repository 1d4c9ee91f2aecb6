use Rattle.crn_graph.proofs.Prelude.{◌∙◌, arith}
use Rattle.crn_graph.proofs.RankEntered.{IsEntered, entered_ranks, entered_keeps, entered_place}
use Rattle.crn_graph.proofs.RankCalls.{enter_room, keeps_then}
use Rattle.crn_graph.proofs.ranks.Ranking.explore.Goals as goal

pub enter-requires : goal.enter-requires
enter-requires c =
    let s = c.args.self.now in
    let room = enter_room c.args.graph.now.arcs s c.args.c c.requires.ranking (omega (arith, c.requires.inside, c.requires.long)) c.requires.free in
    record { inside = room.place; path = room.path; start = room.start; opened = room.waiting }

pub loop-self-init : goal.loop-self-init
loop-self-init c =
    let s = c.args.self.now in
    let t = c.enter.new.self in
    let arcs = c.args.graph.now.arcs in
    let h = c.requires.ranking in
    let none = h.parts.some c.requires.none in
    let is : IsEntered arcs s t c.args.c = record { old = h; inside = omega (arith, c.requires.inside, c.requires.long); free = c.requires.free; reached = λ i lt. absurd (omega (arith, lt, none)); entered = c.enter.ensures } in
    let keeps = entered_keeps arcs s t c.args.c is in
    let place = entered_place arcs s t c.args.c is in
    record {
      ranking = entered_ranks arcs s t c.args.c is;
      long = keeps.long ∙ c.requires.long;
      keeps = keeps;
      reached = omega (arith, place);
    }

pub loop-self-preserved : goal.loop-self-preserved
loop-self-preserved c =
    let h = c.loop-self.invariant in
    let e = c.step.ensures in
    record {
      ranking = e.ranking;
      long = e.keeps.long ∙ h.long;
      keeps = keeps_then c.args.self.now c.loop-self.self c.step.new.self h.keeps e.keeps;
      reached = e.keeps.reached c.args.c h.reached;
    }
