use Rattle.crn_conc.proofs.Prelude.{map, ◌∙◌, arith, pos, take_all, length-map, sign, map_more}
use Rattle.crn_conc.proofs.influence.signs_of.Goals as goal

pub loop-s-preserved : goal.loop-s-preserved
loop-s-preserved c = map_more sign c.args.numbers.now c.loop-s.s (pos 0) c.loop-s.signs.items c.push.new.self.items c.sign_at.result c.loop-s-test.true c.loop-s.invariant c.in_ok-push.ensures.items c.sign_at.ensures

pub returns : goal.returns
returns c = c.new.ensures ∙ c.loop-s.invariant ∙ take_all c.loop-s.s (map sign c.args.numbers.now) (omega (arith, c.loop-s-test.false, length-map c.args.numbers.now sign))
