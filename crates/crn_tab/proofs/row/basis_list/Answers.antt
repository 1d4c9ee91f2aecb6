use Rattle.crn_tab.proofs.Prelude.{◌++◌, ◌∷◌, [], List, ℕ, ap, sym, ◌∙◌, KeptNums}
use Rattle.crn_tab.proofs.Places.{basis_joins, basis_stays}
use Rattle.crn_tab.proofs.row.basis_list.Goals as goal
use Rattle.crn_tab.proofs.row.basis_list.Goals.{then-at-k+in_ok-push, else-at-k}

pub loop-k-preserved : goal.loop-k-preserved
loop-k-preserved c =
    let n = c.args.n in
    let at = c.args.at.now in
    let k = c.loop-k.k in
    elim c.if-at-k.branch [
      | then-at-k+in_ok-push w ↦
          ap (λ (v : KeptNums). v.list) w.v-is ∙ w.in_ok-push.ensures.ok ∙ ap (λ (v : List ℕ). v ++ (k ∷ [])) c.loop-k.invariant ∙ sym (basis_joins n at k c.loop-k-test.true w.if-at-k.true)
      | else-at-k w ↦ ap (λ (v : KeptNums). v.list) w.v-is ∙ c.loop-k.invariant ∙ sym (basis_stays n at k c.loop-k-test.true w.if-at-k.false)
    ]
