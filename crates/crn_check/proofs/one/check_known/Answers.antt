use Rattle.crn_check.proofs.one.check_known.Goals as goal

pub returns : goal.returns
returns c = ((c.have_one_each.ensures.0 c.if-not-have_one_each.false, c.are_known.ensures.0 c.if-not-are_known.false), tt)
