use Rattle.crn_conc.proofs.Prelude.{◌≡◌, length, map, refl, sym, ap, ◌∙◌, arith, pos, take_all, length-map, minus, sign, length-minus, map_more, entry-minus}
use Rattle.crn_conc.proofs.influence.signs_of_differences.Goals as goal

pub loop-s-preserved : goal.loop-s-preserved
loop-s-preserved c =
    let left = c.args.left.now in
    let right = c.args.right.now in
    let s = c.loop-s.s in
    let long : length (minus left right) ≡ length left = length-minus (length left) left right refl c.requires in
    map_more sign (minus left right) s (pos 0) c.loop-s.signs.items c.push.new.self.items c.sign_of_difference.result (omega (arith, long, c.loop-s-test.true)) c.loop-s.invariant c.in_ok-push.ensures.items
    (c.sign_of_difference.ensures ∙ ap sign (sym (entry-minus left right s (sym c.requires))))

pub returns : goal.returns
returns c =
    let left = c.args.left.now in
    let right = c.args.right.now in
    let long : length (minus left right) ≡ length left = length-minus (length left) left right refl c.requires in
    c.new.ensures ∙ c.loop-s.invariant ∙ take_all c.loop-s.s (map sign (minus left right)) (omega (arith, long, c.loop-s-test.false, length-map (minus left right) sign))
