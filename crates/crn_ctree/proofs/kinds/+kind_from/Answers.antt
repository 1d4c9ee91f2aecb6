use Rattle.crn_ctree.proofs.KindLaws.{first_open, first_none, first_raises, first_lowers}
use Rattle.crn_ctree.proofs.kinds.+kind_from.Goals as goal

pub returns-in-Plus : goal.returns-in-Plus
returns-in-Plus t c = first_raises c.args.raised c.args.lowered c.args.numbers.now c.args.prefix.now c.product_sign.result c.kind_from-in-Plus.result c.in-len1-up.len_at_least c.in-len1-up-prefix.len_at_least c.product_sign.ensures c.in-Plus.is c.kind_from-in-Plus.ensures

pub returns-in-Minus : goal.returns-in-Minus
returns-in-Minus t c = first_lowers c.args.raised c.args.lowered c.args.numbers.now c.args.prefix.now c.product_sign.result c.kind_from-in-Minus.result c.in-len1-up.len_at_least c.in-len1-up-prefix.len_at_least c.product_sign.ensures c.in-Minus.is c.kind_from-in-Minus.ensures

pub returns-in-Zero : goal.returns-in-Zero
returns-in-Zero t c = first_none c.args.raised c.args.lowered c.args.numbers.now c.args.prefix.now c.product_sign.result c.kind_from-in-Zero.result c.in-len1-up.len_at_least c.in-len1-up-prefix.len_at_least c.product_sign.ensures c.in-Zero.is c.kind_from-in-Zero.ensures

pub returns-else-not-is_nought : goal.returns-else-not-is_nought
returns-else-not-is_nought t c = first_open c.args.raised c.args.lowered c.args.numbers.now c.args.prefix.now c.kind_from.result c.in-len1-up.len_at_least c.in-empty-prefix.len_below (c.is_nought.ensures.0 c.if-not-is_nought.false) c.kind_from.ensures
