use Rattle.crn_conc.proofs.Prelude.{word_at, IsExtended}
use Rattle.crn_conc.proofs.SumLaws.{IsMaking}
use Rattle.crn_conc.proofs.kinds.put_extended.Given as goal

abbrev pub invariant-loop-w : goal.invariant-loop-w
invariant-loop-w l = IsMaking (λ w x. IsExtended (word_at l.above w) (word_at l.signs w) l.option x) l.fn.sums l.sums l.w
