use Rattle.crn_farkas.proofs.Prelude.{IfSome, IsIn}
use Rattle.crn_farkas.proofs.units.most_help.Given as goal

abbrev pub invariant-loop-k : goal.invariant-loop-k
invariant-loop-k l = IfSome l.at (λ b. IsIn b l.tableau.basis)
