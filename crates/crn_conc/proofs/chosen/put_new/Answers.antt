use Rattle.crn_conc.proofs.SumLaws.{put_nothing}
use Rattle.crn_conc.proofs.chosen.put_new.Goals as goal

pub returns-else-is_new : goal.returns-else-is_new
returns-else-is_new c = put_nothing _ _ _ (c.requires.plus c.if-is_new.false) (c.requires.minus c.if-is_new.false)
