use Rattle.crn_ctext.proofs.Prelude.{◌↔◌, drop, IsIn, texts}
use Rattle.crn_ctext.proofs.kinds.has_text.Given as goal

abbrev pub invariant-loop-row : goal.invariant-loop-row
invariant-loop-row l = IsIn l.word (texts (drop l.row-index l.rows)) ↔ IsIn l.word (texts l.rows)
