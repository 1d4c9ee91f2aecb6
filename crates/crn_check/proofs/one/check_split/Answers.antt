use Rattle.crn_check.proofs.one.check_split.Goals as goal

pub returns : goal.returns
returns c = (c.is_first_split.ensures.0 c.if-not-is_first_split.false, tt)
