use Rattle.crn_ctext.proofs.Prelude.{◌<◌, length, ap, subst, ◌∙◌, arith, drop, nat_tests, HasNumber, HasNoNumber}
use Rattle.crn_ctext.proofs.LineNumbers.{held}
use Rattle.crn_ctext.proofs.LineCame.{came_fails, came_many, no_space_fails, no_number_fails, came_more, came_zero, came_zeros, came_all}
use Rattle.crn_ctext.proofs.record_numbers.numbers.Goals as goal

pub returns-then-count-most-clause-numbers : goal.returns-then-count-most-clause-numbers
returns-then-count-most-clause-numbers c =
    let inv = c.loop-left.invariant in
    came_many c.args.line.now c.loop-left.left.now inv.0 c.args.most inv.1 (grind (arith, nat_tests, c.loop-left-test.ensures)) (omega arith)

pub returns-then-left-ne32-clause-numbers : goal.returns-then-left-ne32-clause-numbers
returns-then-left-ne32-clause-numbers c = λ zs h le.
    let inv = c.loop-left.invariant in
    came_fails c.args.line.now c.loop-left.left.now inv.0 inv.1 (no_space_fails c.loop-left.left.now (grind (arith, nat_tests, c.loop-left-test.ensures)) c.if-left-ne32.true) zs h

pub returns-in-None-clause-numbers : goal.returns-in-None-clause-numbers
returns-in-None-clause-numbers c = λ zs h le.
    let inv = c.loop-left.invariant in
    let field = subst HasNoNumber c.split_at.ensures.back c.in-None.ensures in
    came_fails c.args.line.now c.loop-left.left.now inv.0 inv.1 (no_number_fails c.loop-left.left.now (grind (arith, nat_tests, c.loop-left-test.ensures)) field) zs h

pub loop-left-preserved : goal.loop-left-preserved
loop-left-preserved c =
    let inv = c.loop-left.invariant in
    let left = c.loop-left.left.now in
    let some : 0 < length left = grind (arith, nat_tests, c.loop-left-test.ensures) in
    let field = subst (λ t. HasNumber t c.in-Some-number.value c.in-Some-number.width) c.split_at.ensures.back c.in-Some-number.ensures in
    let more = came_more c.args.line.now left inv.0 _ _ _ c.in-Some-number.value c.in-Some-number.width inv.1 inv.2 some c.if-left-ne32.false field (rw (held field.number c.in-Some-number.value field.is) at c.add-in-Some-number.ensures.list) in
    let after = c.split_at-in-Some-number.ensures.back ∙ ap (drop c.in-Some-number.width) c.split_at.ensures.back in
    (more.0, rw after more.1, more.2, omega (arith, more.3), omega arith, omega arith)

pub loop-left-preserved-in-Some-after_zeros : goal.loop-left-preserved-in-Some-after_zeros
loop-left-preserved-in-Some-after_zeros c =
    let inv = c.loop-left.invariant in
    let one = came_zero c.args.line.now c.loop-left.left.now c.in-Some.after.now inv.0 _ _ _ inv.1 inv.2 c.in-Some.ensures c.add.ensures.list in
    let more = came_zeros c.args.line.now c.in-Some.after.now c.in-Some-after_zeros.after.now one.0 _ _ _ one.1 one.2 c.in-Some-after_zeros.ensures.begins c.add_zeros.ensures.list in
    (more.0, more.1, more.2, omega (arith, one.3, more.3), omega (arith, c.in-Some-after_zeros.ensures.room), omega arith)

pub loop-left-preserved-in_default-after_zeros : goal.loop-left-preserved-in_default-after_zeros
loop-left-preserved-in_default-after_zeros c =
    let inv = c.loop-left.invariant in
    let more = came_zero c.args.line.now c.loop-left.left.now c.in-Some.after.now inv.0 _ _ _ inv.1 inv.2 c.in-Some.ensures c.add.ensures.list in
    (more.0, more.1, more.2, omega (arith, more.3), omega arith, omega arith)

pub returns-clause-numbers : goal.returns-clause-numbers
returns-clause-numbers c =
    let inv = c.loop-left.invariant in
    (inv.0, came_all c.args.line.now c.loop-left.left.now inv.0 inv.1 (grind (arith, nat_tests, c.loop-left-test.ensures)), inv.2)
