use Rattle.crn_rank.proofs.Prelude.{◌≡◌, ◌+◌, ℕ, not, List, ap, sym, subst, ◌∙◌, ℤ, AllZip, false≢true, is_outside, IsCombOf, rows_outside}
use Rattle.crn_rank.proofs.PickedRows.{zip_yes, zip_no, asked_yes, asked_no}
use Rattle.crn_rank.proofs.combs.combs.Goals as goal
use Rattle.crn_rank.proofs.combs.combs.Goals.{then-not-is_basic+in_ok-comb_of+in_ok-push, else-not-is_basic}

pub loop-k-preserved : goal.loop-k-preserved
loop-k-preserved c =
    let a = c.args.tableau.now.matrix in
    let basis = c.args.tableau.now.basis in
    let k = c.loop-k.k in
    let first = c.cols-first.result in
    let is : first ≡ a.cols = c.cols-first.ensures in
    let P : ℕ → List ℤ → Type 0 = IsCombOf a basis c.args.count in
    let Z : List (List ℤ) → Type 0 = λ ls. AllZip P (rows_outside a basis (k + 1)) ls in
    elim c.if-not-is_basic.branch [
      | then-not-is_basic+in_ok-comb_of+in_ok-push w ↦ subst Z (sym (w.combs-is ∙ w.in_ok-push.ensures.ok))
          (zip_yes P (is_outside a basis) c.loop-k.combs k w.in_ok-comb_of.field-0.list (ap not (asked_no a basis first k is (λ i. false≢true (sym w.if-not-is_basic.true ∙ c.is_basic.ensures.1 i)))) c.loop-k.invariant (subst (λ (n : ℕ). IsCombOf a basis n k w.in_ok-comb_of.field-0.list) (sym c.requires.count) w.in_ok-comb_of.ensures))
      | else-not-is_basic w ↦ subst Z (sym w.combs-is) (zip_no P (is_outside a basis) c.loop-k.combs k (ap not (asked_yes a basis first k is (c.is_basic.ensures.0 w.if-not-is_basic.false))) c.loop-k.invariant)
    ]
