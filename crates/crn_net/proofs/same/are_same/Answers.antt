use Rattle.crn_net.proofs.Prelude.{◌<◌, ◌∙◌, Bool, get_or, take, length, sym, ap, ap₂, arith, nat_eq, pointwise, take_more, length-take-le}
use Rattle.std.specs.Prelude.{◌&&◌}
use Rattle.crn_net.proofs.SameRows.{pointwise-snoc}
use Rattle.crn_net.proofs.same.are_same.Goals as goal

pub loop-i-preserved : goal.loop-i-preserved
loop-i-preserved c =
    let s = c.loop-i.i in
    let a = c.args.a.now in
    let b = c.args.b.now in
    let a_lt : s < length a = omega arith in
    let b_lt : s < length b = omega arith in
    ap (λ (t : Bool). t && nat_eq (get_or a s 0) (get_or b s 0)) c.loop-i.invariant
    ∙ pointwise-snoc (get_or a s 0) (get_or b s 0) (take s a) (take s b) (omega (arith, length-take-le s a (omega arith), length-take-le s b (omega arith)))
    ∙ sym (ap₂ (pointwise nat_eq) (take_more a s 0 a_lt) (take_more b s 0 b_lt))
