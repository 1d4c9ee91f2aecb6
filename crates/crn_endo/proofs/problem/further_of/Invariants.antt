use Rattle.crn_endo.proofs.Prelude.{◌≡◌, filter, take}
use Rattle.std.proofs.Common.{◌==◌, not}
use Rattle.crn_endo.proofs.problem.further_of.Given as goal

abbrev pub invariant-loop-i : goal.invariant-loop-i
invariant-loop-i l = l.made.items ≡ filter (λ c. not (c == l.own)) (take l.i l.complexes)
