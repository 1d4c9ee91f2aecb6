use Rattle.crn_shape.proofs.Prelude.{◌-◌, get_or, sym, ap, ◌∙◌, arith, is_same_pair}
use Rattle.crn_shape.proofs.Least.{ends_are, least_hit}
use Rattle.crn_shape.proofs.within.follows_its_pair.Goals as goal

pub returns : goal.returns
returns c = λ is.
    let net = c.args.net.now in
    let r = c.args.r in
    let e = ends_are net r c.reactant-y.result c.product-z.result c.reactant-y.ensures.value c.product-z.ensures.value in
    least_hit net r (r - 1) (omega arith) (ap (is_same_pair (get_or net.reactions (r - 1) (0, 0))) (sym e) ∙ sym c.joins.ensures ∙ is)
