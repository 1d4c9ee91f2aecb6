use Rattle.crn_check.proofs.Prelude.{◌≡◌, ◌+◌, ℕ, length, get_or, sym, subst, arith, eq-eqb, eqb-true, AreNumbered, refused}
use Rattle.crn_check.proofs.Numbering.{IsNumberedTo, numbered_old, numbered_new, numbered_gap, numbered_all, one_count}
use Rattle.crn_check.proofs.labels.are_numbered.Goals as goal
use Rattle.crn_check.proofs.labels.are_numbered.Goals.{then-label-most+else-label-most-gt1, else-label-most}

pub returns-then-label-most-gt1 : goal.returns-then-label-most-gt1
returns-then-label-most-gt1 c = refused (numbered_gap c.args.labels.now c.loop-label.label-index c.loop-label.most c.args.count c.loop-label.invariant c.loop-label-test.true (omega (arith, c.if-label-most-gt1.true)))

pub loop-label-preserved : goal.loop-label-preserved
loop-label-preserved c =
    let labels = c.args.labels.now in
    let i = c.loop-label.label-index in
    let h = c.loop-label.invariant in
    elim c.if-label-most.branch [
      | then-label-most+else-label-most-gt1 w ↦
          let next : c.if-label-most.most ≡ c.loop-label.most + 1 = omega (arith, w.most-is, w.if-label-most.true, w.if-label-most-gt1.false) in
          let at : get_or labels i 0 ≡ c.loop-label.most + 1 = omega (arith, w.most-is, next) in
          subst (IsNumberedTo labels (i + 1)) (sym next) (numbered_new labels i c.loop-label.most h at)
      | else-label-most w ↦
          subst (IsNumberedTo labels (i + 1)) (sym w.most-is) (numbered_old labels i c.loop-label.most h (omega (arith, c.if-label-eq0.false)) w.if-label-most.false)
    ]

pub returns : goal.returns
returns c =
    let labels = c.args.labels.now in
    let all : c.loop-label.label-index ≡ length labels = omega (arith, c.loop-label-test.false, c.loop-label.auto.label-index-end) in
    let h : IsNumberedTo labels (length labels) c.loop-label.most = subst (λ (i : ℕ). IsNumberedTo labels i c.loop-label.most) all c.loop-label.invariant in (
      λ yes. subst (AreNumbered labels) (eqb-true _ _ yes) (numbered_all labels c.loop-label.most h),
      λ right. eq-eqb _ _ (one_count labels c.loop-label.most c.args.count h right),
    )
