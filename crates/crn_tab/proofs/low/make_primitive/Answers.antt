use Rattle.crn_tab.proofs.Prelude.{◌^◌, arith}
use Rattle.crn_tab.proofs.Primitive.{part_below}
use Rattle.crn_tab.proofs.low.make_primitive.Goals as goal

pub returns-then-are_low-clause-low : goal.returns-then-are_low-clause-low
returns-then-are_low-clause-low c = λ _.
    part_below (2 ^ 30) c.args.row.now c.reduce.new.row (omega arith) (omega arith) c.reduce.ensures.primitive (c.are_low.ensures c.if-are_low.true)
