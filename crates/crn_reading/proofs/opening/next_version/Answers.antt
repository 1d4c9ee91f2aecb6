use Rattle.crn_reading.proofs.Prelude.{refl, false, ◌≡◌, ℕ, List, ◌∙◌, sym, subst, err_from_is_err_and, due, find, IsTitleOf, BadHeader}
use Rattle.crn_reading.proofs.Steps.{stop_first, step_exits}
use Rattle.crn_reading.proofs.FoundLines.{lines_found, lines_refused}
use Rattle.crn_reading.proofs.opening.next_version.Goals as goal

pub returns-in_err-next_line-clause-step : goal.returns-in_err-next_line-clause-step
returns-in_err-next_line-clause-step g c =
    step_exits _ _ c.from_residual.result _ _ _ _ _ (err_from_is_err_and c.from_residual.result c.from_residual.ensures.1) (stop_first (due false) (λ (line : List ℕ). find 1 BadHeader ℕ (IsTitleOf line)) _ _ _ _ c.in_err-next_line.ensures.step)

pub returns-in-Some-clause-step : goal.returns-in-Some-clause-step
returns-in-Some-clause-step g c =
    let s = c.in_ok-next_line.ensures.step in
    let title : IsTitleOf s.0 c.in-Some.version = subst (λ (l : List ℕ). IsTitleOf l c.in-Some.version) (c.line.ensures ∙ sym s.1) c.in-Some.ensures in
    lines_found {T = Unit {0}} (due false) 1 BadHeader IsTitleOf s.0 c.in-Some.version tt (λ t v. v ≡ c.in-Some.version) c.args.at.now c.next_line.new.at _ _ s.2 s.3 title refl

pub returns-in-None-clause-step : goal.returns-in-None-clause-step
returns-in-None-clause-step g c =
    let s = c.in_ok-next_line.ensures.step in
    lines_refused (due false) 1 BadHeader IsTitleOf s.0 c.args.at.now c.next_line.new.at _ _ s.2 s.3 c.in_ok-next_line.ensures.reads
    (λ (v : ℕ) t. let none = c.in-None.ensures in none v (subst (λ (l : List ℕ). IsTitleOf l v) (s.1 ∙ sym c.line.ensures) t))
