use Rattle.crn_reading.proofs.Prelude.{refl, Last, End, LineTooLong, DocumentTooLong, line_is_awaited, line_is_due}
use Rattle.crn_reading.proofs.Steps.{no_line}
use Rattle.crn_reading.proofs.reading.next_line.Goals as goal

pub returns-in-Line-clause-step : goal.returns-in-Line-clause-step
returns-in-Line-clause-step g c = (c.next.new.self.line, refl, line_is_due c.args.node c.args.at.now.line _ _ _ _ c.requires.reads.taken c.in-Line.ensures, c.in-Line.ensures.3)

pub returns-in-DocumentTooLong-clause-step : goal.returns-in-DocumentTooLong-clause-step
returns-in-DocumentTooLong-clause-step g c = no_line DocumentTooLong c.args.node c.args.at.now.line 29 c.args.at.now.lines c.next.new.self _ _ tt c.requires.reads.taken c.in-DocumentTooLong.ensures refl

pub returns-in-LineTooLong-clause-step : goal.returns-in-LineTooLong-clause-step
returns-in-LineTooLong-clause-step g c = no_line LineTooLong c.args.node c.args.at.now.line 30 c.args.at.now.lines c.next.new.self _ _ tt c.requires.reads.taken c.in-LineTooLong.ensures refl

pub returns-in-Last-clause-step : goal.returns-in-Last-clause-step
returns-in-Last-clause-step g c = no_line Last c.args.node c.args.at.now.line _ c.args.at.now.lines c.next.new.self _ _ tt c.requires.reads.taken c.in-Last.ensures c.early.ensures

pub returns-in-End-clause-step : goal.returns-in-End-clause-step
returns-in-End-clause-step g c = no_line End c.args.node c.args.at.now.line _ c.args.at.now.lines c.next.new.self _ _ tt c.requires.reads.taken c.in-End.ensures c.early-in-End.ensures

pub returns-in-Failed-clause-step : goal.returns-in-Failed-clause-step
returns-in-Failed-clause-step g c = (line_is_awaited c.args.node c.args.at.now.line c.args.at.now.lines c.next.new.self (g.S.Source.seen c.args.source.now) (g.S.Source.seen c.next.new.source) c.in-Failed.ensures, c.in-Failed.ensures.3.0, c.in-Failed.ensures.3.1)
