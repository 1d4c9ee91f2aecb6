use Rattle.crn_sign.proofs.Prelude.{◌≡◌, take, false, scale, factor}
use Rattle.crn_sign.proofs.past.negatives.Given as goal

abbrev pub invariant-loop-x : goal.invariant-loop-x
invariant-loop-x l = l.made.list ≡ scale (factor false) (take l.x-index l.list)
