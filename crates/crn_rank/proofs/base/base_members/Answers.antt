use Rattle.crn_rank.proofs.Prelude.{◌≡◌, ◌++◌, ◌∷◌, [], ℕ, List, ap, sym, ◌∙◌, KeptNums, is_inside, false≢true}
use Rattle.std.specs.Prelude.{slice_index}
use Rattle.crn_rank.proofs.PickedRows.{map_yes, map_no, asked_yes, asked_no}
use Rattle.crn_rank.proofs.base.base_members.Goals as goal
use Rattle.crn_rank.proofs.base.base_members.Goals.{then-is_basic+in_ok-push, else-is_basic}

pub loop-k-preserved : goal.loop-k-preserved
loop-k-preserved c =
    let a = c.args.tableau.now.matrix in
    let basis = c.args.tableau.now.basis in
    let members = c.args.members.now in
    let k = c.loop-k.k in
    let first = c.cols-first.result in
    let is : first ≡ a.cols = c.cols-first.ensures in
    elim c.if-is_basic.branch [
      | then-is_basic+in_ok-push w ↦
          ap (λ (m : KeptNums). m.list) w.base-is ∙ w.in_ok-push.ensures.ok ∙ ap (λ (l : List ℕ). l ++ slice_index members k ∷ []) c.loop-k.invariant
          ∙ sym (map_yes (slice_index members) (is_inside a basis) k (asked_yes a basis first k is (c.is_basic.ensures.0 w.if-is_basic.true)))
      | else-is_basic w ↦
          ap (λ (m : KeptNums). m.list) w.base-is ∙ c.loop-k.invariant
          ∙ sym (map_no (slice_index members) (is_inside a basis) k (asked_no a basis first k is (λ i. false≢true (sym w.if-is_basic.false ∙ c.is_basic.ensures.1 i))))
    ]
