use Rattle.crn_reg.proofs.Prelude.{AreZeroBefore}
use Rattle.crn_reg.proofs.normal.first_sum.Given as goal

abbrev pub invariant-loop-m : goal.invariant-loop-m
invariant-loop-m l = AreZeroBefore l.labels l.exits l.vector l.m
