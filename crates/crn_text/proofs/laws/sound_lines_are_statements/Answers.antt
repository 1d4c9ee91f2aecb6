use Rattle.crn_text.proofs.Grammar.{line_good}
use Rattle.crn_text.proofs.SoundLines.{sound_line}
use Rattle.crn_text.proofs.laws.sound_lines_are_statements.Goals as goal

pub returns : goal.returns
returns c = λ line. (line_good line, sound_line line)
