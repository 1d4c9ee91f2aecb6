use Rattle.crn_ctext.proofs.Prelude.{arith, nat_tests, refused}
use Rattle.crn_ctext.proofs.LineShapes.{chain, class_wide, no_class_wide}
use Rattle.crn_ctext.proofs.record_shape.is_class_wide.Goals as goal

pub returns-in-None : goal.returns-in-None
returns-in-None c = refused (no_class_wide c.args.species c.args.reactions.now c.args.numbers.now c.in-None.ensures)

pub returns-in-Some : goal.returns-in-Some
returns-in-Some c = let found = c.in-Some.ensures in
    chain c.is_indexed.ensures (class_wide c.args.species c.args.reactions.now c.args.numbers.now c.in-Some.class c.split_at.result.1.now (grind (arith, nat_tests, c.if-is_empty.ensures)) found.1 found.0 c.split_at.ensures.back)
