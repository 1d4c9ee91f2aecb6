use Rattle.crn_ctext.proofs.Prelude.{◌↔◌, drop, IsIn, words_of}
use Rattle.crn_ctext.proofs.kinds.has_word.Given as goal

abbrev pub invariant-loop-row : goal.invariant-loop-row
invariant-loop-row l = IsIn l.word (words_of l.version l.trees (drop l.row-index l.rows)) ↔ IsIn l.word (words_of l.version l.trees l.rows)
