use Rattle.crn_conc.proofs.Prelude.{◌≡◌, map, take, minus, sign}
use Rattle.crn_conc.proofs.influence.signs_of_differences.Given as goal

abbrev pub invariant-loop-s : goal.invariant-loop-s
invariant-loop-s l = l.signs.items ≡ take l.s (map sign (minus l.left l.right))
