use Rattle.crn_ctext.proofs.Prelude.{arith}
use Rattle.crn_ctext.proofs.LineShapes.{chain, members_met, members_passed, rest_ascends}
use Rattle.crn_ctext.proofs.record_shape.are_members.Goals as goal
use Rattle.crn_ctext.proofs.record_shape.are_members.Goals.{then-is_at, else-is_at}

pub loop-member-preserved : goal.loop-member-preserved
loop-member-preserved c =
    let inv = c.loop-member.invariant in
    let up = rest_ascends c.args.members.now c.loop-member.member-index c.loop-member-test.true inv.1 in
    elim c.if-is_at.branch [
      | then-is_at w ↦
          let here = c.is_at.ensures.0 w.if-is_at.true in
          let step = members_met c.args.members.now c.args.numbers.now c.loop-member.member-index c.loop-member.met c.loop-member-test.true here.0 inv.1 here.1 in
          (omega (arith, w.met-is, here.0), up, rw w.met-is (chain step inv.2))
      | else-is_at w ↦
          let step = members_passed c.args.members.now c.args.numbers.now c.loop-member.member-index c.loop-member.met c.loop-member-test.true inv.1
          (λ less same. let t = c.is_at.ensures.1 (less, same) in let f = w.if-is_at.false in cc) in
          (omega (arith, w.met-is, inv.0), up, rw w.met-is (chain step inv.2))
    ]
