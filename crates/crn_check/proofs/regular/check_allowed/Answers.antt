use Rattle.crn_check.proofs.regular.check_allowed.Goals as goal

pub returns : goal.returns
returns c = ((c.have_one_each.ensures.0 c.if-not-have_one_each.false, c.is_allowed.ensures.0 c.if-not-is_allowed.false), tt)
