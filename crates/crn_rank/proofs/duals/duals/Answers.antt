use Rattle.crn_rank.proofs.Prelude.{◌≡◌, ◌+◌, ℕ, List, length, ap, sym, subst, ◌∙◌, ℤ, AllZip, false≢true, is_inside, IsDualOf, rows_inside}
use Rattle.crn_rank.proofs.PickedRows.{zip_yes, zip_no, asked_yes, asked_no}
use Rattle.crn_rank.proofs.duals.duals.Goals as goal
use Rattle.crn_rank.proofs.duals.duals.Goals.{then-is_basic+in_ok-dual_of+in_ok-push, else-is_basic}

pub loop-k-preserved : goal.loop-k-preserved
loop-k-preserved c =
    let a = c.args.tableau.now.matrix in
    let basis = c.args.tableau.now.basis in
    let k = c.loop-k.k in
    let first = c.cols-first.result in
    let is : first ≡ a.cols = c.cols-first.ensures in
    let P : ℕ → List ℤ → Type 0 = IsDualOf a basis in
    let Z : List (List ℤ) → Type 0 = λ ls. AllZip P (rows_inside a basis (k + 1)) ls in
    elim c.if-is_basic.branch [
      | then-is_basic+in_ok-dual_of+in_ok-push w ↦ record {
        work = ap length w.work-is ∙ w.in_ok-dual_of.ensures.work ∙ c.loop-k.invariant.work;
        duals = subst Z (sym (w.duals-is ∙ w.in_ok-push.ensures.ok))
            (zip_yes P (is_inside a basis) c.loop-k.duals k w.in_ok-dual_of.field-0.list (asked_yes a basis first k is (c.is_basic.ensures.0 w.if-is_basic.true)) c.loop-k.invariant.duals w.in_ok-dual_of.ensures.dual);
      }
      | else-is_basic w ↦ record {
        work = ap length w.work-is ∙ c.loop-k.invariant.work;
        duals = subst Z (sym w.duals-is) (zip_no P (is_inside a basis) c.loop-k.duals k (asked_no a basis first k is (λ i. false≢true (sym w.if-is_basic.false ∙ c.is_basic.ensures.1 i))) c.loop-k.invariant.duals);
      }
    ]
