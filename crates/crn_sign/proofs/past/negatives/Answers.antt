use Rattle.crn_sign.proofs.Prelude.{◌++◌, ◌∷◌, [], List, ℤ, ap, sym, ◌∙◌, false, w128, to_z-of_z, entry, ◌*ℤ◌, factor, scale_step}
use Rattle.crn_sign.proofs.past.negatives.Goals as goal

pub loop-x-preserved : goal.loop-x-preserved
loop-x-preserved c =
    let q = factor false in
    let k = c.loop-x.x-index in
    let pushed = to_z-of_z w128 c.number_of_multiple.result (record { sfits = c.number_of_multiple.type_inv }) ∙ c.number_of_multiple.ensures in
    c.in_ok-push.ensures.ok ∙ ap (λ (x : ℤ). c.loop-x.made.list ++ (x ∷ [])) pushed
    ∙ ap (λ (v : List ℤ). v ++ ((q *ℤ entry c.args.list.now k) ∷ [])) c.loop-x.invariant ∙ sym (scale_step q c.args.list.now k c.loop-x-test.true)
