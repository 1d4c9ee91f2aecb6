use Rattle.crn_sign.proofs.MarkLaws.{lay_over}
use Rattle.crn_sign.proofs.marks.add_multiple.Goals as goal

pub returns : goal.returns
returns c = lay_over c.args._matrix.now c.args.one.now c.args.marks.now c.put_laid.new.marks c.requires.one c.requires.marks c.put_laid.ensures
