use Rattle.crn_reading.proofs.Prelude.{refl, false, ◌≡◌, ℕ, List, ◌∙◌, sym, false≢true, err_from_is_err_and, due, test, BadHeader, part_title}
use Rattle.crn_reading.proofs.Steps.{stop_first, step_exits}
use Rattle.crn_reading.proofs.FoundLines.{lines_found, lines_refused}
use Rattle.crn_reading.proofs.opening.next_part_title.Goals as goal

pub returns-in_err-next_line-clause-step : goal.returns-in_err-next_line-clause-step
returns-in_err-next_line-clause-step g c =
    step_exits _ _ c.from_residual.result _ _ _ _ _ (err_from_is_err_and c.from_residual.result c.from_residual.ensures.1) (stop_first (due false) (λ (line : List ℕ). test 1 BadHeader (line ≡ part_title c.args.part.now)) _ _ _ _ c.in_err-next_line.ensures.step)

pub returns-then-is_title-clause-step : goal.returns-then-is_title-clause-step
returns-then-is_title-clause-step g c =
    let s = c.in_ok-next_line.ensures.step in
    let title : s.0 ≡ part_title c.args.part.now = s.1 ∙ sym c.line.ensures ∙ c.if-is_title.ensures.0 refl in
    lines_found {T = Unit {0}} (due false) 1 BadHeader (λ (line : List ℕ) (x : Unit {0}). line ≡ part_title c.args.part.now) s.0 tt tt (λ t v. Unit {0}) c.args.at.now c.next_line.new.at _ _ s.2 s.3 title tt

pub returns-clause-step : goal.returns-clause-step
returns-clause-step g c =
    let s = c.in_ok-next_line.ensures.step in
    lines_refused (due false) 1 BadHeader (λ (line : List ℕ) (x : Unit {0}). line ≡ part_title c.args.part.now) s.0 c.args.at.now c.next_line.new.at _ _ s.2 s.3 c.in_ok-next_line.ensures.reads
    (λ x t. false≢true (c.if-is_title.ensures.1 (c.line.ensures ∙ sym s.1 ∙ t)))
