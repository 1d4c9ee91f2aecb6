use Rattle.crn_sign.proofs.BitLaws.{marked}
use Rattle.crn_sign.proofs.bits.put_mark.Goals as goal

pub returns : goal.returns
returns c = marked c.args.words.now c.args.k c.with_mark.result c.args.mark c.requires c.with_mark.ensures.here c.with_mark.ensures.others
