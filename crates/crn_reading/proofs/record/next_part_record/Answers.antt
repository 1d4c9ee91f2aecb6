use Rattle.crn_reading.proofs.Prelude.{◌≡◌, ◌-◌, ◌∙◌, List, [], false, sym, subst, arith, ℕ, err_from_is_err_and, Place, place, step_then, step_fails_then, due, Gives, FailsFirst, WrongOrder, reads_part, forms_in, texts_of}
use Rattle.crn_reading.proofs.Steps.{stop_first, step_exits, tests_give, tests_fail}
use Rattle.crn_reading.proofs.Records.{reads_one}
use Rattle.crn_reading.proofs.record.next_part_record.Goals as goal

pub returns-in_err-next_line-clause-step : goal.returns-in_err-next_line-clause-step
returns-in_err-next_line-clause-step g c =
    let words = texts_of c.args.words.now in
    step_exits _ _ c.from_residual.result _ _ _ _ _ (err_from_is_err_and c.from_residual.result c.from_residual.ensures.1)
    (stop_first (due false) (λ line. reads_part words c.args.at.now.line (forms_in words c.args.due.now c.args.runs.now) line) _ _ _ _ c.in_err-next_line.ensures.step)

pub returns-in-Ok-clause-step : goal.returns-in-Ok-clause-step
returns-in-Ok-clause-step g c =
    let words = texts_of c.args.words.now in
    let forms = forms_in words c.args.due.now c.args.runs.now in
    let old = c.args.at.now in
    let n = old.line in
    let mid = c.next_line.new.at in
    let before = g.S.Source.seen c.args.source.now in
    let now = g.S.Source.seen c.next_line.new.source in
    let s = c.in_ok-next_line.ensures.step in
    let r = c.in-Ok.ensures.ok in
    let line : c.line.result.now ≡ s.0 = c.line.ensures ∙ sym s.1 in
    let gives : (at : Place) → Gives (reads_part words n forms s.0) at r.said at = λ at. subst (λ (l : List ℕ). Gives (reads_part words n forms l) at r.said at) line (let q = r.gives in q n at) in
    let here : Place = place mid.line mid.lines [] in
    let form = reads_one words [] n false forms WrongOrder s.0 here here r.said (gives here) in (
      r.said,
      record { form = form; inside = r.inside; kind = r.kind; numbers = r.numbers },
      step_then (due false) (λ line. reads_part words n forms line) s.0 r.said n mid.line mid.line old.lines mid.lines mid.lines before.left now.left now.left s.2 (tests_give (reads_part words n forms s.0) r.said mid.line mid.lines now.left gives),
      s.3,
    )

pub returns-in-Err-clause-step : goal.returns-in-Err-clause-step
returns-in-Err-clause-step g c =
    let words = texts_of c.args.words.now in
    let forms = forms_in words c.args.due.now c.args.runs.now in
    let old = c.args.at.now in
    let n = old.line in
    let mid = c.next_line.new.at in
    let before = g.S.Source.seen c.args.source.now in
    let now = g.S.Source.seen c.next_line.new.source in
    let s = c.in_ok-next_line.ensures.step in
    let r = c.in-Err.ensures.err in
    let line : c.line.result.now ≡ s.0 = c.line.ensures ∙ sym s.1 in
    let here : n ≡ mid.line - 1 = omega (arith, c.in_ok-next_line.ensures.line) in
    let fails : (at : Place) → FailsFirst (reads_part words n forms s.0) at (mid.line - 1) c.number.result = λ at.
    subst (λ (l : List ℕ). FailsFirst (reads_part words n forms l) at (mid.line - 1) c.number.result) line
    (subst (λ (k : ℕ). FailsFirst (reads_part words n forms c.line.result.now) at k c.number.result) here
    (subst (λ (k : ℕ). FailsFirst (reads_part words n forms c.line.result.now) at n k) (sym c.number.ensures) (r.0 n at))) in
    (step_fails_then (due false) (λ line. reads_part words n forms line) s.0 n mid.line (mid.line - 1) c.number.result old.lines mid.lines before.left now.left now.left s.2 (tests_fail (reads_part words n forms s.0) mid.line (mid.line - 1) c.number.result mid now.left c.in_ok-next_line.ensures.reads fails), s.3)
