use Rattle.crn_endo_text.proofs.Prelude.{◌-◌, ◌∙◌, subst, sym, false≢true, err_from_is_err_and, AreFree, step_exits, IsAgainst}
use Rattle.crn_endo_text.proofs.VerdictsRead.{no_stop, slope_free, no_refused, no_then}
use Rattle.crn_endo_text.proofs.verify.next_no.Goals as goal

pub returns-in_err-next_slope-clause-step : goal.returns-in_err-next_slope-clause-step
returns-in_err-next_slope-clause-step g c =
    step_exits _ _ c.from_residual.result _ _ _ _ _ (err_from_is_err_and c.from_residual.result c.from_residual.ensures.1)
    (no_stop c.args.net.now c.args.reaction _ c.args.at.now _ _ c.in_err-next_slope.ensures.step)

pub is_against-requires-clause-slope : goal.is_against-requires-clause-slope
is_against-requires-clause-slope g c =
    let s = c.in_ok-next_slope.ensures.step in
    subst (AreFree _) (sym c.as_slice.ensures) (slope_free c.args.net.now _ c.next_slope.new.at.numbers.list s.0 s.1)

pub returns-then-not-is_against-clause-step : goal.returns-then-not-is_against-clause-step
returns-then-not-is_against-clause-step g c =
    let s = c.in_ok-next_slope.ensures.step in
    no_refused c.args.net.now c.args.reaction _ s.0 c.args.at.now c.next_slope.new.at _ _ (s.2, s.3) s.1 c.in_ok-next_slope.ensures.line
    (λ h. false≢true (sym c.if-not-is_against.true ∙ c.is_against.ensures.1 (subst (IsAgainst c.args.net.now (c.args.reaction - 1)) (sym c.as_slice.ensures) h))) c.in_ok-next_slope.ensures.goes.reads

pub returns-clause-step : goal.returns-clause-step
returns-clause-step g c =
    let s = c.in_ok-next_slope.ensures.step in
    no_then c.args.net.now c.args.reaction _ s.0 c.args.at.now c.next_slope.new.at _ _ (s.2, s.3) s.1 c.in_ok-next_slope.ensures.line
    (subst (IsAgainst c.args.net.now (c.args.reaction - 1)) c.as_slice.ensures (c.is_against.ensures.0 c.if-not-is_against.false))
