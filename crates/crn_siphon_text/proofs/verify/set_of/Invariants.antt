use Rattle.crn_siphon_text.proofs.Prelude.{◌≡◌, take, set_of}
use Rattle.crn_siphon_text.proofs.verify.set_of.Given as goal

abbrev pub invariant-loop-s : goal.invariant-loop-s
invariant-loop-s l = l.set.items ≡ take l.s (set_of l.marks)
