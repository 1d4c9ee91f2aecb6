use Rattle.crn_rank.proofs.Prelude.{◌≡◌, ◌++◌, ◌∷◌, [], ℕ, List, ap, sym, ◌∙◌, false≢true, is_inside}
use Rattle.crn_rank.proofs.PickedRows.{picked_yes, picked_no, asked_yes, asked_no}
use Rattle.crn_rank.proofs.base.places_inside.Goals as goal
use Rattle.crn_rank.proofs.base.places_inside.Goals.{then-is_basic+in_ok-push, else-is_basic}

pub loop-k-preserved : goal.loop-k-preserved
loop-k-preserved c =
    let a = c.args.tableau.now.matrix in
    let basis = c.args.tableau.now.basis in
    let k = c.loop-k.k in
    let first = c.cols-first.result in
    let is : first ≡ a.cols = c.cols-first.ensures in
    elim c.if-is_basic.branch [
      | then-is_basic+in_ok-push w ↦
          ap (λ v. v.items) w.places-is ∙ w.in_ok-push.ensures.items ∙ ap (λ (l : List ℕ). l ++ k ∷ []) c.loop-k.invariant
          ∙ sym (picked_yes (is_inside a basis) k (asked_yes a basis first k is (c.is_basic.ensures.0 w.if-is_basic.true)))
      | else-is_basic w ↦
          ap (λ v. v.items) w.places-is ∙ c.loop-k.invariant
          ∙ sym (picked_no (is_inside a basis) k (asked_no a basis first k is (λ i. false≢true (sym w.if-is_basic.false ∙ c.is_basic.ensures.1 i))))
    ]
