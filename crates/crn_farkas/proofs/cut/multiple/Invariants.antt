use Rattle.crn_farkas.proofs.Prelude.{◌≡◌, take, scale, factor}
use Rattle.crn_farkas.proofs.cut.multiple.Given as goal

abbrev pub invariant-loop-x : goal.invariant-loop-x
invariant-loop-x l = l.made.list ≡ scale (factor l.stays) (take l.x-index l.list)
