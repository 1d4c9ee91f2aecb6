use Rattle.crn_text.proofs.Prelude.{arith}
use Rattle.crn_text.proofs.LineFlaws.{side_short, sides_flaw_more, sides_flaw_all}
use Rattle.crn_text.proofs.first_fault.flaw_of_sides.Goals as goal

pub flaw_of_side-requires : goal.flaw_of_side-requires
flaw_of_side-requires c = omega (arith, side_short c.sides.invariant c.in-Some.is c.split_side.ensures, c.requires.short)

pub sides-preserved : goal.sides-preserved
sides-preserved c = sides_flaw_more c.args.body.now c.sides.invariant c.in-Some.is c.split_side.ensures c.flaw_of_side.ensures c.min-flaw.ensures

pub returns : goal.returns
returns c = sides_flaw_all c.args.body.now c.sides.invariant c.in_default.is
