use Rattle.crn_ctree.proofs.Prelude.{◌∙◌, arith, length-set, entry, sign_is}
use Rattle.crn_ctree.proofs.SignalLaws.{signs_more, all_signs}
use Rattle.crn_ctree.proofs.signal.put_signs.Goals as goal

pub loop-k-preserved : goal.loop-k-preserved
loop-k-preserved c =
    let numbers = c.args.numbers.now in
    let into = c.loop-k.into in
    let k = c.loop-k.k in (
      length-set into k c.sign_at.result ∙ c.loop-k.invariant.0,
      signs_more numbers into k c.sign_at.result (omega (arith, c.loop-k-test.true, c.loop-k.invariant.0)) c.loop-k.invariant.1 (sign_is c.sign_at.result (entry numbers k) c.sign_at.ensures),
    )

pub returns : goal.returns
returns c = all_signs c.args.numbers.now c.loop-k.into c.loop-k.invariant.0 (λ j lt. c.loop-k.invariant.1 j (omega (arith, lt, c.loop-k-test.false)))
