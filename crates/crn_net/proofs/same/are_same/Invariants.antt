use Rattle.crn_net.proofs.Prelude.{◌≡◌, take, nat_eq, pointwise}
use Rattle.crn_net.proofs.same.are_same.Given as goal

abbrev pub invariant-loop-i : goal.invariant-loop-i
invariant-loop-i l = l.same ≡ pointwise nat_eq (take l.i l.a) (take l.i l.b)
