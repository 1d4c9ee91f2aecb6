use Rattle.crn_shape.proofs.Prelude.{◌<◌, length, get_or, sym, ap, ◌∙◌, arith, get_or-map, length-map, Pair, Shape, pair_kind, no_pair, pair_of}
use Rattle.crn_shape.proofs.shape.Shape.pair_kind.Goals as goal

pub returns : goal.returns
returns c =
    let net = c.self.inside.net.now in
    let pairs = c.self.inside.pairs.items in
    let i = c.args.i in
    let lt : i < length pairs = omega (arith, c.requires, ap (λ (s : Shape). length s.pairs) c.self.view_is, length-map pairs (pair_of net)) in
    c.pair_kind.ensures net
    ∙ ap (λ (p : Pair). pair_kind c.args.shelves.now p)
    (ap (pair_of net) c.index.ensures ∙ sym (get_or-map (pair_of net) pairs i c.index.result.now no_pair lt) ∙ ap (λ (s : Shape). get_or s.pairs i no_pair) c.self.view_is)
