use Rattle.crn_ctree.proofs.Prelude.{sym, ◌∙◌, arith, length-set, entry, sign_is, matrix_by, weights_of}
use Rattle.crn_ctree.proofs.CutLaws.{weights_long}
use Rattle.crn_ctree.proofs.SignalLaws.{signs_more, all_signs}
use Rattle.crn_ctree.proofs.cut.put_weights.Goals as goal

pub loop-k-preserved : goal.loop-k-preserved
loop-k-preserved c =
    let a = matrix_by c.args.net.now c.args.system in
    let w = weights_of a c.args.u.now in
    let into = c.loop-k.into in
    let k = c.loop-k.k in (
      length-set into k c.weight.result ∙ c.loop-k.invariant.0,
      signs_more w into k c.weight.result (omega (arith, c.loop-k-test.true, c.loop-k.invariant.0)) c.loop-k.invariant.1 (sign_is c.weight.result (entry w k) c.weight.ensures),
    )

pub returns : goal.returns
returns c =
    let a = matrix_by c.args.net.now c.args.system in
    let u = c.args.u.now in
    let long = weights_long a u c.requires.numbers.long in
    all_signs (weights_of a u) c.loop-k.into (c.loop-k.invariant.0 ∙ sym long) (λ j lt. c.loop-k.invariant.1 j (omega (arith, lt, long, c.loop-k.invariant.0, c.loop-k-test.false)))
