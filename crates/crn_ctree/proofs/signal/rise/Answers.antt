use Rattle.crn_ctree.proofs.Prelude.{◌≤◌, ◌∙◌, get_or, length, ap, arith, w128, to_z-of_z, minus, dot, complex_at, narrow_within, no_pair}
use Rattle.crn_ctree.proofs.SignalLaws.{dot-minus}
use Rattle.crn_ctree.proofs.signal.rise.Goals as goal

pub dot-requires-clause-a : goal.dot-requires-clause-a
dot-requires-clause-a c = narrow_within c.args.mu.now c.requires.mu.each

pub returns : goal.returns
returns c =
    let s = c.args.shape.now in
    let mu = c.args.mu.now in
    let pair = get_or s.pairs c.args.i no_pair in
    let a = complex_at s pair.high in
    let b = complex_at s pair.low in
    let long : length mu ≤ length (minus a b) = omega (arith, c.requires.mu.long, c.difference.ensures.long, ap length c.difference.ensures.value) in
    to_z-of_z w128 c.dot.result (record { sfits = c.dot.type_inv }) ∙ c.dot.ensures ∙ ap (dot mu) c.difference.ensures.value ∙ dot-minus mu a b long
