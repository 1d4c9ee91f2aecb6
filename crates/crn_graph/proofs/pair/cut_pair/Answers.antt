use Rattle.crn_graph.proofs.Prelude.{◌≡◌, ◌<◌, ◌∙◌, length, sym, inl, inr, arith, get_or_read, label_at}
use Rattle.crn_graph.proofs.PairLaws.{IsRound, labels_two, round_of, round_searched, round_side, round_walk}
use Rattle.crn_graph.proofs.pair.cut_pair.Goals as goal

pub returns-then-index-eq0 : goal.returns-then-index-eq0
returns-then-index-eq0 c =
    let net = c.args.net.now in
    let arcs = c.in_ok-graph.graph.arcs in
    let s = c.in_ok-search.search in
    let t = c.spread.new.self in
    let y = c.reactant-y.result in
    let z = c.product-z.result in
    let e = c.spread.ensures in
    let round : IsRound net arcs s t c.args.reaction y z =
    round_of net arcs s t c.args.reaction y z c.complexes.result c.requires c.reactant-y.ensures.value c.product-z.ensures.value c.product-z.ensures.other c.in_ok-graph.ensures.arcs c.complexes.ensures.count c.in_ok-search.ensures e.spreading e.all e.keeps e.newest e.start in
    let lt : y < length t.label.items = omega (arith, e.keeps.long, c.reactant-y.ensures.complex, round.blank.count) in
    let read = get_or_read t.label.items y c.index.result.now lt c.index.ensures 0 in
    let none : label_at t y ≡ 0 = omega (arith, read, c.if-index-eq0.true) in
    rw (c.in_ok-side.ensures, c.deref.ensures.value) (round_side net arcs s t c.args.reaction y z round none c.reactant-y.ensures.complex c.product-z.ensures.complex)

pub walk-requires-clause-searched : goal.walk-requires-clause-searched
walk-requires-clause-searched c =
    let net = c.args.net.now in
    let arcs = c.in_ok-graph.graph.arcs in
    let s = c.in_ok-search.search in
    let t = c.spread.new.self in
    let y = c.reactant-y.result in
    let z = c.product-z.result in
    let e = c.spread.ensures in
    round_searched net arcs s t c.args.reaction y z
    (round_of net arcs s t c.args.reaction y z c.complexes.result c.requires c.reactant-y.ensures.value c.product-z.ensures.value c.product-z.ensures.other c.in_ok-graph.ensures.arcs c.complexes.ensures.count c.in_ok-search.ensures e.spreading e.all e.keeps e.newest e.start)

pub returns : goal.returns
returns c =
    let net = c.args.net.now in
    let arcs = c.in_ok-graph.graph.arcs in
    let s = c.in_ok-search.search in
    let t = c.spread.new.self in
    let y = c.reactant-y.result in
    let z = c.product-z.result in
    let e = c.spread.ensures in
    let round : IsRound net arcs s t c.args.reaction y z =
    round_of net arcs s t c.args.reaction y z c.complexes.result c.requires c.reactant-y.ensures.value c.product-z.ensures.value c.product-z.ensures.other c.in_ok-graph.ensures.arcs c.complexes.ensures.count c.in_ok-search.ensures e.spreading e.all e.keeps e.newest e.start in
    let lt : y < length t.label.items = omega (arith, e.keeps.long, c.reactant-y.ensures.complex, round.blank.count) in
    let read = get_or_read t.label.items y c.index.result.now lt c.index.ensures 0 in
    let its : label_at t y ≡ t.newest = elim (labels_two net arcs s t c.args.reaction y z y round) [ inl q ↦ absurd (c.if-index-eq0.false (read ∙ q)) | inr q ↦ q ∙ sym e.newest ] in
    round_walk net arcs s t c.args.reaction y z c.in_ok-walk.field-0.list round its c.in_ok-walk.ensures.back
