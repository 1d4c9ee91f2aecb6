use Rattle.crn_conc.proofs.Prelude.{◌≡◌, map, take, sign}
use Rattle.crn_conc.proofs.influence.signs_of.Given as goal

abbrev pub invariant-loop-s : goal.invariant-loop-s
invariant-loop-s l = l.signs.items ≡ take l.s (map sign l.numbers)
