use Rattle.crn_sign.proofs.Prelude.{◌++◌, ◌∷◌, [], ℕ, List, sym, ap, ◌∙◌, arith, range_more}
use Rattle.crn_sign.proofs.problem.coordinates.Goals as goal

pub loop-k-preserved : goal.loop-k-preserved
loop-k-preserved c =
    let k = c.loop-k.k in
    c.in_ok-push.ensures.items ∙ ap (λ (l : List ℕ). l ++ k ∷ []) c.loop-k.invariant ∙ sym (range_more 0 k k (omega arith))
