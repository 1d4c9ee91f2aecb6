use Rattle.crn_net.proofs.Prelude.{◌≡◌, ◌+◌, ◌<◌, length, get_or, arith, Term}
use Rattle.crn_net.proofs.Amounts.{alike_more}
use Rattle.crn_net.proofs.side_sums.are_alike.Goals as goal

abbrev none : Term
none = record { at = 0; length = 0; count = 0 }

pub loop-i-preserved : goal.loop-i-preserved
loop-i-preserved c =
    let i = c.loop-i.i in
    let left = c.args.left.now in
    let right = c.args.right.now in
    let l : i < length left = omega arith in
    let r : i < length right = omega arith in
    alike_more c.args.text.now left right i none l r c.loop-i.invariant (c.are_equal.ensures.name c.if-not-are_equal.false) (c.are_equal.ensures.number c.if-not-are_equal.false)
