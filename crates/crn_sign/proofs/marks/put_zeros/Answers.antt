use Rattle.crn_sign.proofs.MarkLaws.{none_marked}
use Rattle.crn_sign.proofs.marks.put_zeros.Goals as goal

pub returns : goal.returns
returns c = none_marked c.args._matrix.now c.args.marks.now c.clear.new.marks c.requires (record { count = c.clear.ensures.count; each = c.clear.ensures.none })
