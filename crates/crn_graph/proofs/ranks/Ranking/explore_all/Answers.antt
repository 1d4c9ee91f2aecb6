use Rattle.crn_graph.proofs.Prelude.{◌∙◌, inl, inr, ap, arith, cases_eq, get_or_read, place_at}
use Rattle.crn_graph.proofs.RankCalls.{all_ranks}
use Rattle.crn_graph.proofs.ranks.Ranking.explore_all.Goals as goal

pub index-requires : goal.index-requires
index-requires c =
    let h = c.loop-c.invariant in
    omega (arith, c.loop-c-test.true, h.long, h.ranking.long.place)

pub loop-c-preserved-then-index-gt0 : goal.loop-c-preserved-then-index-gt0
loop-c-preserved-then-index-gt0 c =
    let s = c.loop-c.self in
    let h = c.loop-c.invariant in
    let read = get_or_read s.place.items c.loop-c.c c.index.result.now (omega (arith, c.loop-c-test.true, h.long, h.ranking.long.place)) c.index.ensures 0 in
    record {
      ranking = h.ranking;
      long = h.long;
      none = h.none;
      reached = λ y lt. elim (cases_eq y c.loop-c.c) [
        | inl e ↦ let f = ap (place_at s) e in omega (arith, f, read, c.if-index-gt0.true)
        | inr ne ↦ h.reached y (omega (arith, lt, ne))
      ];
    }

pub explore-requires-clause-free : goal.explore-requires-clause-free
explore-requires-clause-free c =
    let s = c.loop-c.self in
    let h = c.loop-c.invariant in
    let read = get_or_read s.place.items c.loop-c.c c.index.result.now (omega (arith, c.loop-c-test.true, h.long, h.ranking.long.place)) c.index.ensures 0 in
    omega (arith, read, c.if-index-gt0.false)

pub loop-c-preserved : goal.loop-c-preserved
loop-c-preserved c =
    let t = c.explore.new.self in
    let h = c.loop-c.invariant in
    let e = c.explore.ensures in
    record {
      ranking = e.ranking;
      long = e.keeps.long ∙ h.long;
      none = e.none;
      reached = λ y lt. elim (cases_eq y c.loop-c.c) [
        | inl q ↦ let f = ap (place_at t) q in omega (arith, f, e.reached)
        | inr ne ↦ e.keeps.reached y (h.reached y (omega (arith, lt, ne)))
      ];
    }

pub returns : goal.returns
returns c =
    let h = c.loop-c.invariant in
    record { ranks = all_ranks c.args.graph.now.arcs c.args.complexes c.loop-c.self h.ranking h.long h.none c.requires.inside (λ y lt. h.reached y (omega (arith, lt, c.loop-c-test.false))) }
