use Rattle.crn_solve.proofs.Prelude.{◌++◌, ◌+◌, ◌∷◌, [], ℕ, List, sym, ap, ◌∙◌, arith, range_more}
use Rattle.crn_solve.proofs.rank_answer.all_reactions.Goals as goal

pub loop-r-preserved : goal.loop-r-preserved
loop-r-preserved c =
    let r = c.loop-r.r in
    c.in_ok-push.ensures.items ∙ ap (λ (l : List ℕ). l ++ (r + 1) ∷ []) c.loop-r.invariant ∙ sym (range_more 1 r (r + 1) (omega arith))
