use Rattle.crn_document.proofs.Prelude.{◌≡◌, ◌-◌, ◌∙◌, List, true, sym, subst, arith, ℕ, ℤ, err_from_is_err_and, Place, step_fails_then, due, Gives, IsReadAs, IsNodeLineAs, asks_node_for, memory_stops, stop_first, step_exits, tests_fail}
use Rattle.crn_ctext.specs.Course.{FailsFirst}
use Rattle.crn_ctext.specs.Expect.{tests_of}
use Rattle.crn_reading.specs.declared.fault.CheckStop.TheVariants as stop
use Rattle.crn_document.proofs.MetLines.{line_reads, met_at}
use Rattle.crn_document.proofs.node.next_node_line.Goals as goal

pub returns-in_err-next_line-clause-step : goal.returns-in_err-next_line-clause-step
returns-in_err-next_line-clause-step g c =
    step_exits _ _ c.from_residual.result _ _ _ _ _ (err_from_is_err_and c.from_residual.result c.from_residual.ensures.1) (stop_first (due true) (λ line. tests_of c.args.expect.now c.args.at.now.line line) _ _ _ _ c.in_err-next_line.ensures.step)

pub returns-in-Some-clause-step : goal.returns-in-Some-clause-step
returns-in-Some-clause-step g c =
    let e = c.args.expect.now in
    let old = c.args.at.now in
    let mid = c.next_line.new.at in
    let before = g.S.Source.seen c.args.source.now in
    let now = g.S.Source.seen c.next_line.new.source in
    let s = c.in_ok-next_line.ensures.step in
    let line : c.line-line.result.now ≡ s.0 = c.line-line.ensures ∙ sym s.1 in
    let f = c.in-Some.ensures in
    let m = met_at e c.args.cuts.now.net c.args.cuts.now.problem c.args.met.now.lines.items c.line-line.result.now c.in-Some.i c.requires.met f.0 f.1 in
    let gives : (k : ℕ) (at : Place) → Gives (tests_of e k s.0) at m.r at = λ k at. subst (λ (l : List ℕ). Gives (tests_of e k l) at m.r at) line (let q = m.gives in q k at) in
    (m.r, m.is, line_reads e old.line mid.line s.0 m.r old.lines mid.lines before.left now.left s.2 gives, s.3)

pub keep_cut-requires-clause-read : goal.keep_cut-requires-clause-read
keep_cut-requires-clause-read g c = subst (λ (zs : List ℤ). IsReadAs c.args.expect.now c.line-line.result.now c.in-Ok.word zs) (sym c.as_slice-numbers.ensures) c.in-Ok.ensures.ok

pub returns-in_err-node_line-in-Ok-clause-step : goal.returns-in_err-node_line-in-Ok-clause-step
returns-in_err-node_line-in-Ok-clause-step g c =
    let e = c.args.expect.now in
    let old = c.args.at.now in
    let mid = c.next_line.new.at in
    let before = g.S.Source.seen c.args.source.now in
    let now = g.S.Source.seen c.next_line.new.source in
    let s = c.in_ok-next_line.ensures.step in
    let line : c.line-line.result.now ≡ s.0 = c.line-line.ensures ∙ sym s.1 in
    let r = c.in-Ok.ensures.ok in
    let gives : (k : ℕ) (at : Place) → Gives (tests_of e k s.0) at r.said at = λ k at. subst (λ (l : List ℕ). Gives (tests_of e k l) at r.said at) line (let q = r.gives in q k at) in
    step_exits _ _ _ stop.NoMemory _ _ _ _ (err_from_is_err_and _ c.from_residual-in_err-node_line-in-Ok.ensures.1)
    (memory_stops (asks_node_for e old.line) r.said old mid _ _ (line_reads e old.line mid.line s.0 r.said old.lines mid.lines before.left now.left s.2 gives) s.3 c.in_ok-next_line.ensures.reads)

pub returns-in_ok-node_line-in-Ok-clause-step : goal.returns-in_ok-node_line-in-Ok-clause-step
returns-in_ok-node_line-in-Ok-clause-step g c =
    let e = c.args.expect.now in
    let old = c.args.at.now in
    let mid = c.next_line.new.at in
    let before = g.S.Source.seen c.args.source.now in
    let now = g.S.Source.seen c.next_line.new.source in
    let s = c.in_ok-next_line.ensures.step in
    let line : c.line-line.result.now ≡ s.0 = c.line-line.ensures ∙ sym s.1 in
    let h : IsReadAs e c.line-line.result.now c.in-Ok.word c.as_slice-numbers.result.now = subst (λ (zs : List ℤ). IsReadAs e c.line-line.result.now c.in-Ok.word zs) (sym c.as_slice-numbers.ensures) c.in-Ok.ensures.ok in
    let gives : (k : ℕ) (at : Place) → Gives (tests_of e k s.0) at h.said at = λ k at. subst (λ (l : List ℕ). Gives (tests_of e k l) at h.said at) line (let q = h.gives in q k at) in
    let node_line = let q = c.in_ok-node_line-in-Ok.ensures.node_line in q h in (
      h.said,
      subst (λ (zs : List ℤ). IsNodeLineAs e c.args.cuts.now.net c.args.cuts.now.problem c.keep_cut.new.met.lines.items c.in_ok-node_line-in-Ok.node_line zs h.said) c.as_slice-numbers.ensures node_line,
      line_reads e old.line mid.line s.0 h.said old.lines mid.lines before.left now.left s.2 gives,
      s.3,
    )

pub returns-in-Err-clause-step : goal.returns-in-Err-clause-step
returns-in-Err-clause-step g c =
    let e = c.args.expect.now in
    let old = c.args.at.now in
    let n = old.line in
    let mid = c.next_line.new.at in
    let before = g.S.Source.seen c.args.source.now in
    let now = g.S.Source.seen c.next_line.new.source in
    let s = c.in_ok-next_line.ensures.step in
    let r = c.in-Err.ensures.err in
    let line : c.line-line.result.now ≡ s.0 = c.line-line.ensures ∙ sym s.1 in
    let here : n ≡ mid.line - 1 = omega (arith, c.in_ok-next_line.ensures.line) in
    let fails : (at : Place) → FailsFirst (tests_of e n s.0) at (mid.line - 1) c.number.result = λ at.
    subst (λ (l : List ℕ). FailsFirst (tests_of e n l) at (mid.line - 1) c.number.result) line
    (subst (λ (k : ℕ). FailsFirst (tests_of e n c.line-line.result.now) at k c.number.result) here
    (subst (λ (k : ℕ). FailsFirst (tests_of e n c.line-line.result.now) at n k) (sym c.number.ensures) (let q = (r.0).fails in q n at))) in
    (step_fails_then (due true) (λ line. tests_of e n line) s.0 n mid.line (mid.line - 1) c.number.result old.lines mid.lines before.left now.left now.left s.2 (tests_fail (tests_of e n s.0) mid.line (mid.line - 1) c.number.result mid now.left c.in_ok-next_line.ensures.reads fails), s.3)
