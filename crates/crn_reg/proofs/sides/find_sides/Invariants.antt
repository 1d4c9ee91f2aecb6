use Rattle.crn_reg.proofs.Prelude.{take, AllZip, HasSide}
use Rattle.crn_reg.proofs.sides.find_sides.Given as goal

abbrev pub invariant-loop-r : goal.invariant-loop-r
invariant-loop-r l = AllZip (HasSide l.net) (take l.r-index l.pairs) l.sides
