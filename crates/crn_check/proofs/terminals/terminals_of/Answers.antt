use Rattle.crn_check.proofs.Prelude.{◌+◌, ◌≤◌, ℕ, sym, ap, ◌∙◌, arith, MAX_COMPLEXES, passes_at, fails_by_exit, fails_by_complexes, terminals_yes, terminals_no, terminals_few}
use Rattle.crn_check.proofs.terminals.terminals_of.Goals as goal
use Rattle.crn_check.proofs.terminals.terminals_of.Goals.{then-exit-m-eq0+then-marks-m, else-exit-m-eq0, else-exit-m-eq0-via-then-exit-m-eq0+else-marks-m, else-exit-m-eq0-via-else-exit-m-eq0}

pub overflow_add-count : goal.overflow_add-count
overflow_add-count c =
    omega (arith, c.loop-m.invariant, terminals_few c.args.strong.now c.args.exit.now c.args.linkage.now c.args.k c.loop-m.m, c.loop-m-test.true)

pub loop-m-preserved : goal.loop-m-preserved
loop-m-preserved c =
    let labels = c.args.strong.now in
    let exits = c.args.exit.now in
    let links = c.args.linkage.now in
    let k = c.args.k in
    let m = c.loop-m.m in
    let most : m + 1 ≤ MAX_COMPLEXES = omega (arith, c.loop-m-test.true, c.requires.few) in
    elim c.if-exit-m-eq0.branch [
      | then-exit-m-eq0+then-marks-m w ↦
          w.count-is ∙ ap (λ (n : ℕ). n + 1) c.loop-m.invariant ∙ sym (terminals_yes labels exits links k m (passes_at labels exits links k m w.if-exit-m-eq0.true (sym (c.marks_in-marks.ensures (m + 1) most) ∙ w.if-marks-m.true)))
      | else-exit-m-eq0 w ↦ w.count-is ∙ c.loop-m.invariant ∙ sym (elim w.else-exit-m-eq0.branch [
        | else-exit-m-eq0-via-then-exit-m-eq0+else-marks-m v ↦ terminals_no labels exits links k m (fails_by_complexes labels exits links k m (sym (c.marks_in-marks.ensures (m + 1) most) ∙ v.if-marks-m.false))
        | else-exit-m-eq0-via-else-exit-m-eq0 v ↦ terminals_no labels exits links k m (fails_by_exit labels exits links k m v.if-exit-m-eq0.false)
      ])
    ]
