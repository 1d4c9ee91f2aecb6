use Rattle.crn_graph.proofs.Prelude.{◌≡◌, ◌<◌, ◌∙◌, length, refl, sym, ap, arith, get_or_read, HasArc, label_at}
use Rattle.crn_graph.proofs.SearchLaws.{room_left, has_found, found_spreads, found_on}
use Rattle.crn_graph.proofs.search.Search.find.Goals as goal

pub index_mut-requires-4 : goal.index_mut-requires-4
index_mut-requires-4 c =
    let s = c.args.self.now in
    let h = c.requires.spreading in
    let a = c.arc-arc.result in
    let lt : a.to < length s.label.items = omega (arith, c.arc-arc.ensures.to, c.requires.long) in
    let read = get_or_read s.label.items a.to c.index.result.now lt c.index.ensures 0 in
    let room = room_left c.args.graph.now.arcs s a.to h lt (omega (arith, c.if-index-gt0.false, read)) in
    omega (arith, room, h.long.queue)

pub returns-clause-spreading : goal.returns-clause-spreading
returns-clause-spreading c =
    let s = c.args.self.now in
    let h = c.requires.spreading in
    let arcs = c.args.graph.now.arcs in
    let a = c.arc-arc.result in
    let e = c.arc-arc.ensures.value in
    let lt : a.to < length s.label.items = omega (arith, c.arc-arc.ensures.to, c.requires.long) in
    let read = get_or_read s.label.items a.to c.index.result.now lt c.index.ensures 0 in
    let none : label_at s a.to ≡ 0 = omega (arith, c.if-index-gt0.false, read) in
    let arc : HasArc arcs a.reaction a.from a.to = record { place = c.args.place; inside = c.requires.inside; from_is = ap (λ x. x.from) (sym e); to_is = ap (λ x. x.to) (sym e); reaction_is = ap (λ x. x.reaction) (sym e) } in
    let from : a.from < length s.depth.items = omega (arith, c.arc-arc.ensures.from, c.requires.long, h.long.depth) in
    let depth = get_or_read s.depth.items a.from c.index-2.result.now from c.index-2.ensures 0 in
    found_spreads arcs s _ a.from a.to a.reaction h arc (ap (λ x. label_at s x.from) e ∙ c.requires.from) lt none
    (has_found s _ a.from a.to a.reaction c.index-2.result.now h.long h.some (room_left arcs s a.to h lt none) lt none depth refl refl refl refl refl refl refl)

pub returns-clause-on : goal.returns-clause-on
returns-clause-on c =
    let s = c.args.self.now in
    let h = c.requires.spreading in
    let a = c.arc-arc.result in
    let lt : a.to < length s.label.items = omega (arith, c.arc-arc.ensures.to, c.requires.long) in
    let read = get_or_read s.label.items a.to c.index.result.now lt c.index.ensures 0 in
    let none : label_at s a.to ≡ 0 = omega (arith, c.if-index-gt0.false, read) in
    let from : a.from < length s.depth.items = omega (arith, c.arc-arc.ensures.from, c.requires.long, h.long.depth) in
    let depth = get_or_read s.depth.items a.from c.index-2.result.now from c.index-2.ensures 0 in
    found_on s _ a.from a.to a.reaction none
    (has_found s _ a.from a.to a.reaction c.index-2.result.now h.long h.some (room_left c.args.graph.now.arcs s a.to h lt none) lt none depth refl refl refl refl refl refl refl)
