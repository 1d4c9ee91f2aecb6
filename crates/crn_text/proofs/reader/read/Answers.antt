use Rattle.crn_text.proofs.LinesRead.{text_ok, text_err}
use Rattle.crn_text.proofs.reader.read.Goals as goal

pub returns-in-Ok-finish : goal.returns-in-Ok-finish
returns-in-Ok-finish c = text_ok c.args.text.now c.read_lines.new.builder c.in-Ok-finish.net c.if-text-gt-MAX_TEXT.false c.in_ok-read_lines.ensures c.in-Ok-finish.ensures

pub returns-in-Err-finish : goal.returns-in-Err-finish
returns-in-Err-finish c = text_err c.args.text.now c.read_lines.new.builder c.in-Err-finish.fault c.from.result c.if-text-gt-MAX_TEXT.false c.in_ok-read_lines.ensures c.in-Err-finish.ensures c.from.ensures
