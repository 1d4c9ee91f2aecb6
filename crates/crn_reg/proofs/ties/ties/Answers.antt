use Rattle.crn_reg.proofs.Prelude.{◌+◌, List, length, ap, sym, subst, ◌∙◌, ℤ, AllZip, IsTieOf, numbers_but}
use Rattle.crn_reg.proofs.Named.{ties_more, ties_same}
use Rattle.crn_reg.proofs.ties.ties.Goals as goal
use Rattle.crn_reg.proofs.ties.ties.Goals.{then-c-spared+in_ok-tie_of+in_ok-push, else-c-spared}

pub loop-c-preserved : goal.loop-c-preserved
loop-c-preserved c =
    let a = c.args.tableau.now.matrix in
    let spared = c.args.spared in
    let k = c.loop-c.c in
    let Z : List (List ℤ) → Type 0 = λ ls. AllZip (IsTieOf a spared) (numbers_but spared (k + 1)) ls in
    elim c.if-c-spared.branch [
      | then-c-spared+in_ok-tie_of+in_ok-push w ↦ record {
        work = ap length w.work-is ∙ w.tie_of.ensures.work ∙ c.loop-c.invariant.work;
        ties = subst Z (sym (w.ties-is ∙ w.in_ok-push.ensures.ok)) (ties_more a spared k c.loop-c.ties w.in_ok-tie_of.field-0.list w.if-c-spared.true c.loop-c.invariant.ties w.in_ok-tie_of.ensures.tie);
      }
      | else-c-spared w ↦ record {
        work = ap length w.work-is ∙ c.loop-c.invariant.work;
        ties = subst Z (sym w.ties-is) (ties_same a spared k c.loop-c.ties w.if-c-spared.false c.loop-c.invariant.ties);
      }
    ]
