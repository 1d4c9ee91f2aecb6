use Rattle.crn_ctext.proofs.LineSought.{refused_misfit, refused_wide, refused_kept}
use Rattle.crn_ctext.proofs.record.read_record.Goals as goal

pub returns-in-Err-Misfit-clause-err : goal.returns-in-Err-Misfit-clause-err
returns-in-Err-Misfit-clause-err c = refused_kept c.args.expect.now c.args.line.now 24 c.args.into.now c.seek.new.into (refused_misfit c.args.expect.now c.args.line.now c.requires.due (rw c.in-Err-Misfit.field-0-is at c.in-Err-Misfit.ensures.sought)) c.requires.empty c.in-Err-Misfit.ensures.err c.seek.ensures.spare

pub returns-in-Err-TooWide-clause-err : goal.returns-in-Err-TooWide-clause-err
returns-in-Err-TooWide-clause-err c = refused_kept c.args.expect.now c.args.line.now 25 c.args.into.now c.seek.new.into (refused_wide c.args.expect.now c.args.line.now c.requires.due (rw c.in-Err-TooWide.field-0-is at c.in-Err-TooWide.ensures.sought)) c.requires.empty c.in-Err-TooWide.ensures.err c.seek.ensures.spare
