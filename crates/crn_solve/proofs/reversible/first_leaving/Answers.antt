use Rattle.crn_solve.proofs.Prelude.{◌+◌, ap, sym, below_more, arith}
use Rattle.crn_solve.proofs.Leaving.{joins_one, joins_two, even_if_none}
use Rattle.crn_solve.proofs.reversible.first_leaving.Goals as goal

pub loop-r-preserved : goal.loop-r-preserved
loop-r-preserved c = below_more _ _ c.loop-r.invariant (joins_one c.args.net.now c.args.label.now c.loop-r.r c.reactant.result c.product.result c.reactant.ensures.value c.product.ensures.value c.if-label-reactant.false)

pub returns : goal.returns
returns c =
    let net = c.args.net.now in
    even_if_none net c.args.label.now (λ r y z lt at other.
    c.loop-r.invariant (r + 1) (omega (arith, lt, c.reactions-r-end.ensures.count, c.loop-r-test.false))
    (joins_two net c.args.label.now r y z lt (sym (ap (λ p. p.0) at)) (sym (ap (λ p. p.1) at)) other))
