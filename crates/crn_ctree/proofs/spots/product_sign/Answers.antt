use Rattle.crn_ctree.proofs.Prelude.{product_is}
use Rattle.crn_ctree.proofs.spots.product_sign.Goals as goal

pub returns : goal.returns
returns c = product_is c.args.left c.args.right c.product.result c.product.ensures
