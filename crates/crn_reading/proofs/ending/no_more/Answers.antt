use Rattle.crn_reading.proofs.Prelude.{Line, Last, LineTooLong, DocumentTooLong}
use Rattle.crn_reading.proofs.Endings.{nothing_left, rest_is_awaited, something_left}
use Rattle.crn_reading.proofs.ending.no_more.Goals as goal

pub returns-in-End : goal.returns-in-End
returns-in-End g c = nothing_left c.args.at.now.line c.args.at.now.lines c.next.new.self (g.S.Source.seen c.args.source.now) (g.S.Source.seen c.next.new.source) c.requires.taken c.in-End.ensures

pub returns-in-Line : goal.returns-in-Line
returns-in-Line g c = something_left Line c.args.at.now.line c.args.at.now.lines c.next.new.self (g.S.Source.seen c.args.source.now) (g.S.Source.seen c.next.new.source) tt c.requires.taken c.in-Line.ensures

pub returns-in-Last : goal.returns-in-Last
returns-in-Last g c = something_left Last c.args.at.now.line c.args.at.now.lines c.next.new.self (g.S.Source.seen c.args.source.now) (g.S.Source.seen c.next.new.source) tt c.requires.taken c.in-Last.ensures

pub returns-in-DocumentTooLong : goal.returns-in-DocumentTooLong
returns-in-DocumentTooLong g c = something_left DocumentTooLong c.args.at.now.line c.args.at.now.lines c.next.new.self (g.S.Source.seen c.args.source.now) (g.S.Source.seen c.next.new.source) tt c.requires.taken c.in-DocumentTooLong.ensures

pub returns-in-LineTooLong : goal.returns-in-LineTooLong
returns-in-LineTooLong g c = something_left LineTooLong c.args.at.now.line c.args.at.now.lines c.next.new.self (g.S.Source.seen c.args.source.now) (g.S.Source.seen c.next.new.source) tt c.requires.taken c.in-LineTooLong.ensures

pub returns-in-Failed : goal.returns-in-Failed
returns-in-Failed g c = (rest_is_awaited c.args.at.now.line c.args.at.now.lines c.next.new.self (g.S.Source.seen c.args.source.now) (g.S.Source.seen c.next.new.source) c.in-Failed.ensures, c.in-Failed.ensures.3.0, c.in-Failed.ensures.3.1)
