use Rattle.crn_ctext.proofs.Prelude.{◌↔◌, drop, AreDistinct, texts}
use Rattle.crn_ctext.proofs.kinds.are_apart.Given as goal

abbrev pub invariant-loop-i : goal.invariant-loop-i
invariant-loop-i l = AreDistinct (texts (drop l.i l.rows)) ↔ AreDistinct (texts l.rows)
