use Rattle.crn_siphon_text.proofs.Prelude.{◌∙◌, List, Bool, subst, sym, false≢true, err_from_is_err_and, AreFree, step_exits, IsSiphon, Covers}
use Rattle.crn_siphon_text.proofs.VerdictsRead.{cover_stop, cover_free, cover_no_siphon, cover_refused, cover_then}
use Rattle.crn_siphon_text.proofs.verify.next_cover.Goals as goal

pub returns-in_err-next_multipliers-clause-step : goal.returns-in_err-next_multipliers-clause-step
returns-in_err-next_multipliers-clause-step g c = λ marks is.
    step_exits _ _ c.from_residual.result _ _ _ _ _ (err_from_is_err_and c.from_residual.result c.from_residual.ensures.1)
    (cover_stop c.args.net.now marks _ c.args.at.now _ _ c.in_err-next_multipliers.ensures.step)

pub returns-then-not-is_siphon-clause-step : goal.returns-then-not-is_siphon-clause-step
returns-then-not-is_siphon-clause-step g c = λ marks is.
    let s = c.in_ok-next_multipliers.ensures.step in
    cover_no_siphon c.args.net.now marks s.0 c.args.at.now c.next_multipliers.new.at _ _ (s.2, s.3) c.in_ok-next_multipliers.ensures.line
    (λ h. false≢true (sym c.if-not-is_siphon.true ∙ c.is_siphon.ensures.1 (subst (IsSiphon c.args.net.now) is h))) c.in_ok-next_multipliers.ensures.goes.reads

pub covers-requires-clause-numbers : goal.covers-requires-clause-numbers
covers-requires-clause-numbers g c =
    let s = c.in_ok-next_multipliers.ensures.step in
    subst (AreFree _) (sym c.as_slice.ensures) (cover_free c.args.net.now _ c.next_multipliers.new.at.numbers.list s.0 s.1)

pub returns-then-not-covers-clause-step : goal.returns-then-not-covers-clause-step
returns-then-not-covers-clause-step g c = λ marks is.
    let net = c.args.net.now in
    let s = c.in_ok-next_multipliers.ensures.step in
    let siphon = subst (IsSiphon net) (sym is) (c.is_siphon.ensures.0 c.if-not-is_siphon.false) in
    cover_refused net marks _ s.0 c.args.at.now c.next_multipliers.new.at _ _ (s.2, s.3) s.1 c.in_ok-next_multipliers.ensures.line siphon
    (λ h. false≢true (sym c.if-not-covers.true ∙ c.covers.ensures.1 (subst (Covers net c.args.set.now) (sym c.as_slice.ensures) (subst (λ (set : List Bool). Covers net set c.next_multipliers.new.at.numbers.list) is h)))) c.in_ok-next_multipliers.ensures.goes.reads

pub returns-clause-step : goal.returns-clause-step
returns-clause-step g c = λ marks is.
    let net = c.args.net.now in
    let s = c.in_ok-next_multipliers.ensures.step in
    let siphon = subst (IsSiphon net) (sym is) (c.is_siphon.ensures.0 c.if-not-is_siphon.false) in
    let covers = subst (λ (set : List Bool). Covers net set c.next_multipliers.new.at.numbers.list) (sym is) (subst (Covers net c.args.set.now) c.as_slice.ensures (c.covers.ensures.0 c.if-not-covers.false)) in
    cover_then net marks _ s.0 c.args.at.now c.next_multipliers.new.at _ _ (s.2, s.3) s.1 c.in_ok-next_multipliers.ensures.line siphon covers
