use Rattle.crn_ctext.proofs.Prelude.{◌↔◌, drop, IsIn, texts_of}
use Rattle.crn_ctext.proofs.part.is_word_of.Given as goal

abbrev pub invariant-loop-other : goal.invariant-loop-other
invariant-loop-other l = IsIn l.word (texts_of (drop l.other-index l.words)) ↔ IsIn l.word (texts_of l.words)
