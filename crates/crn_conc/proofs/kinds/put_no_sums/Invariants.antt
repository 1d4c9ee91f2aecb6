use Rattle.crn_conc.proofs.Prelude.{◌≡◌, none}
use Rattle.crn_conc.proofs.SumLaws.{IsMaking}
use Rattle.crn_conc.proofs.kinds.put_no_sums.Given as goal

abbrev pub invariant-loop-w : goal.invariant-loop-w
invariant-loop-w l = IsMaking (λ w x. x ≡ none) l.fn.sums l.sums l.w
