use Rattle.crn_ctext.proofs.Prelude.{take, IsWord}
use Rattle.crn_ctext.proofs.record.first_word.Given as goal

abbrev pub invariant-loop-i : goal.invariant-loop-i
invariant-loop-i l = IsWord (take l.i l.line)
