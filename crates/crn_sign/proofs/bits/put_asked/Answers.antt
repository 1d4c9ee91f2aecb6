use Rattle.crn_sign.proofs.BitLaws.{bits_put}
use Rattle.crn_sign.proofs.bits.put_asked.Goals as goal

pub returns : goal.returns
returns c = bits_put c.args.words.now c.args.k c.with_asked.result c.args.asked c.requires c.with_asked.ensures.plus c.with_asked.ensures.minus c.with_asked.ensures.others
