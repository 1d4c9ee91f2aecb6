use Rattle.crn_check.proofs.Prelude.{◌≡◌, ◌+◌, length, arith, refused}
use Rattle.crn_check.proofs.Decided.{granted}
use Rattle.crn_check.proofs.Counted.{has_reverse, no_reverse}
use Rattle.crn_check.proofs.reverses.has_no_reverse.Goals as goal

pub returns-then-is_reverse : goal.returns-then-is_reverse
returns-then-is_reverse c = refused (has_reverse c.args.net.now c.args.reaction (c.loop-r.r + 1) (c.is_reverse.ensures.0 c.if-is_reverse.true))

pub returns : goal.returns
returns c =
    let all : c.loop-r.r ≡ length c.args.net.now.reactions = omega (arith, c.reactions-r-end.ensures.count) in
    granted (no_reverse c.args.net.now c.args.reaction c.requires.0 c.requires.1 (λ q lt. c.loop-r.invariant q (omega (arith, lt, all))))
