use Rattle.crn_reading.proofs.Prelude.{◌-◌, ◌∙◌, ℕ, List, sym, subst, arith, false, err_from_is_err_and, due, IsAddedLine, StopIs}
use Rattle.crn_reading.specs.declared.fault.CheckStop.TheVariants as stop
use Rattle.crn_reading.proofs.Steps.{stop_first, step_exits}
use Rattle.crn_reading.proofs.FoundLines.{memory_after}
use Rattle.crn_reading.proofs.NetworkLines.{lines_after, first_line, no_lines, lines_then}
use Rattle.crn_reading.proofs.opening.+next_lines.Goals as goal

pub returns-then-count-eq0-clause-step : goal.returns-then-count-eq0-clause-step
returns-then-count-eq0-clause-step g t c = no_lines c.args.count _ _ c.args.at.now _ c.if-count-eq0.true

pub returns-in_err-next_line-clause-step : goal.returns-in_err-next_line-clause-step
returns-in_err-next_line-clause-step g t c =
    step_exits _ _ c.from_residual.result _ _ _ _ _ (err_from_is_err_and c.from_residual.result c.from_residual.ensures.1)
    (first_line (λ d. StopIs d c.in_err-next_line.field-0.0 c.args.at.now (g.S.Source.seen c.args.source.now) (g.S.Source.seen c.next_line.new.source)) c.args.count (c.args.count - 1) (omega (arith, c.if-count-eq0.false))
    (stop_first (due false) (lines_after (c.args.count - 1)) _ _ _ _ c.in_err-next_line.ensures.step))

pub returns-in_err-keep_line-clause-step : goal.returns-in_err-keep_line-clause-step
returns-in_err-keep_line-clause-step g t c =
    let s = c.in_ok-next_line.ensures.step in
    step_exits _ _ _ stop.NoMemory _ _ _ _ (err_from_is_err_and _ c.from_residual-in_err-keep_line.ensures.1)
    (first_line (λ d. StopIs d stop.NoMemory c.args.at.now (g.S.Source.seen c.args.source.now) (g.S.Source.seen c.next_line.new.source)) c.args.count (c.args.count - 1) (omega (arith, c.if-count-eq0.false))
    (memory_after (due false) (lines_after (c.args.count - 1)) s.0 c.args.at.now c.next_line.new.at _ _ s.2 s.3 c.in_ok-next_line.ensures.reads))

pub returns-clause-step : goal.returns-clause-step
returns-clause-step g t c =
    let s = c.in_ok-next_line.ensures.step in
    let kept : IsAddedLine c.args.long.now c.keep_line.new.long c.args.text.now.items c.keep_line.new.text.items s.0 =
    subst (λ (l : List ℕ). IsAddedLine c.args.long.now c.keep_line.new.long c.args.text.now.items c.keep_line.new.text.items l) (c.line.ensures ∙ sym s.1) c.in_ok-keep_line.ensures in
    lines_then c.args.count (c.args.count - 1) c.args.long.now c.keep_line.new.long c.next_lines.new.long s.0 c.args.text.now.items c.keep_line.new.text.items c.next_lines.new.text.items c.next_lines.result c.args.at.now c.next_line.new.at c.next_lines.new.at _ _ _ (omega (arith, c.if-count-eq0.false)) kept s.2 s.3 c.next_lines.ensures.step
