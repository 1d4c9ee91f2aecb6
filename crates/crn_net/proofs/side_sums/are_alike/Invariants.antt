use Rattle.crn_net.proofs.Prelude.{◌≡◌, take, side_of}
use Rattle.crn_net.proofs.side_sums.are_alike.Given as goal

abbrev pub invariant-loop-i : goal.invariant-loop-i
invariant-loop-i l = side_of l.text (take l.i l.left) ≡ side_of l.text (take l.i l.right)
