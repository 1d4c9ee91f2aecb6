use Rattle.crn_check.proofs.Prelude.{length, AreSideMarks, is_pair}
use Rattle.crn_check.proofs.InOrder.{AreDone}
use Rattle.crn_check.proofs.sides.check_sides.Given as goal

-- the sides so far pass
abbrev pub invariant-loop-r : goal.invariant-loop-r
invariant-loop-r l = AreDone (AreSideMarks l.net l.linkage) (is_pair l.net l.strong l.exits) 1 (length l.net.reactions) 1 l.sides l.r l.done
