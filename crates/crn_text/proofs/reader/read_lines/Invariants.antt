use Rattle.crn_text.proofs.Prelude.{length, after_split}
use Rattle.crn_text.proofs.Remembered.{ReadsUpTo}
use Rattle.crn_text.proofs.reader.read_lines.Given as goal

abbrev pub invariant-lines : goal.invariant-lines
invariant-lines l = ReadsUpTo l.text l.number l.left l.builder l.known.places

abbrev pub decreases-lines : goal.decreases-lines
decreases-lines l = length (after_split 10 l.left)
