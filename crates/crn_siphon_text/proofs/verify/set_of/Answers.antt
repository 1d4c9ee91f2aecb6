use Rattle.crn_siphon_text.proofs.Prelude.{◌≡◌, get_or, ◌∙◌, arith, ℤ, pos, int_eq, Decides-int_eq, take_all, length-map, map_more, same_test, set_of}
use Rattle.crn_siphon_text.proofs.verify.set_of.Goals as goal

pub loop-s-preserved : goal.loop-s-preserved
loop-s-preserved c =
    let z = get_or c.args.marks.now c.loop-s.s (pos 0) in
    map_more (λ (x : ℤ). int_eq x (pos 1)) c.args.marks.now c.loop-s.s (pos 0) c.loop-s.set.items c.push.new.self.items c.is_member.result c.loop-s-test.true c.loop-s.invariant c.in_ok-push.ensures.items
    (same_test c.is_member.result (int_eq z (pos 1)) (z ≡ pos 1) (z ≡ pos 1) c.is_member.ensures (Decides-int_eq z (pos 1)) (λ e. e) (λ e. e))

pub returns : goal.returns
returns c = c.loop-s.invariant ∙ take_all c.loop-s.s (set_of c.args.marks.now) (omega (arith, c.loop-s-test.false, length-map c.args.marks.now (λ (x : ℤ). int_eq x (pos 1))))
