use Rattle.crn_conc.proofs.Prelude.{word_at, IsAskedOf}
use Rattle.crn_conc.proofs.SumLaws.{IsMaking}
use Rattle.crn_conc.proofs.kinds.put_asked_of_sums.Given as goal

abbrev pub invariant-loop-w : goal.invariant-loop-w
invariant-loop-w l = IsMaking (λ w x. IsAskedOf (word_at l.settled w) (word_at l.sums w) x) l.fn.asked l.asked l.w
