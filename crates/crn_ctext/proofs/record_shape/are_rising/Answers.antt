use Rattle.crn_ctext.proofs.Prelude.{◌+◌, ◌↔◌, drop, get_or, subst, arith, ◌≤ℤ◌, ◌<ℤ◌, drop_more, ints, AreRising}
use Rattle.std.proofs.Common.{pos}
use Rattle.crn_ctext.proofs.LineShapes.{RisesAbove, rises_low, rises_more, chain}
use Rattle.crn_ctext.proofs.record_shape.are_rising.Goals as goal

pub returns-then-number-low : goal.returns-then-number-low
returns-then-number-low c =
    let inv = c.loop-number.invariant in
    let z = get_or c.args.numbers.now c.loop-number.number-index (pos 0) in
    let next = drop_more c.args.numbers.now c.loop-number.number-index (pos 0) c.loop-number-test.true in
    let le : z ≤ℤ pos inv.0 = omega (arith, ints, inv.1) in
    (λ e. absurd cc, λ h. absurd (rises_low inv.0 c.args.greatest _ _ le (rw next at (inv.2.1 h))))

pub loop-number-preserved : goal.loop-number-preserved
loop-number-preserved c =
    let inv = c.loop-number.invariant in
    let z = get_or c.args.numbers.now c.loop-number.number-index (pos 0) in
    let next = drop_more c.args.numbers.now c.loop-number.number-index (pos 0) c.loop-number-test.true in
    let low : pos inv.0 <ℤ z = omega (arith, ints, inv.1) in
    let high : z ≤ℤ pos c.args.greatest = omega (arith, ints) in
    let more = rises_more inv.0 c.args.greatest z (drop (c.loop-number.number-index + 1) c.args.numbers.now) low high in
    (more.0, omega (arith, ints, more.1), chain more.2 (subst (λ t. RisesAbove inv.0 c.args.greatest t ↔ AreRising c.args.greatest c.args.numbers.now) next inv.2))
