use Rattle.crn_farkas.proofs.Prelude.{◌++◌, ◌∷◌, [], List, ap, sym, ◌∙◌, w128, to_z-of_z, entry, ◌*ℤ◌, factor}
use Rattle.std.proofs.Common.{ℤ}
use Rattle.crn_farkas.proofs.Ruling.{scale_step}
use Rattle.crn_farkas.proofs.cut.multiple.Goals as goal

pub loop-x-preserved : goal.loop-x-preserved
loop-x-preserved c =
    let q = factor c.args.stays in
    let k = c.loop-x.x-index in
    let pushed = to_z-of_z w128 c.or_negative.result (record { sfits = c.or_negative.type_inv }) ∙ c.or_negative.ensures in
    c.in_ok-push.ensures.ok ∙ ap (λ (x : ℤ). c.loop-x.made.list ++ (x ∷ [])) pushed
    ∙ ap (λ (v : List ℤ). v ++ ((q *ℤ entry c.args.list.now k) ∷ [])) c.loop-x.invariant ∙ sym (scale_step q c.args.list.now k c.loop-x-test.true)
