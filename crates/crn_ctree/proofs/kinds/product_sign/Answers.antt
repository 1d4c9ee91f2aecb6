use Rattle.crn_ctree.proofs.Prelude.{ap, ◌∙◌, product, sign_is, product_is}
use Rattle.crn_ctree.proofs.kinds.product_sign.Goals as goal

pub returns : goal.returns
returns c = product_is c.sign_at.result c.args.option c.product.result c.product.ensures ∙ ap (λ s. product s c.args.option) (sign_is c.sign_at.result c.args.number.now c.sign_at.ensures)
