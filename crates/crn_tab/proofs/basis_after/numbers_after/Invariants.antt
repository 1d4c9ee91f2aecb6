use Rattle.crn_tab.proofs.Numbers.{NumberedBelow}
use Rattle.crn_tab.proofs.basis_after.numbers_after.Given as goal

abbrev pub invariant-loop-k : goal.invariant-loop-k
invariant-loop-k l = NumberedBelow l.tableau.basis l.leave l.enter l.k l.made.list
