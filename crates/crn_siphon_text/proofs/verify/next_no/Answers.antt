use Rattle.crn_siphon_text.proofs.Prelude.{◌∙◌, List, subst, sym, ap, arith, ℤ, false≢true, err_from_is_err_and, AreFree, RuleOutConservation, asks_part, step_exits, memory_stops, set_of, words, no_forms}
use Rattle.crn_reading.specs.declared.fault.CheckStop.TheVariants as stop
use Rattle.crn_siphon_text.proofs.VerdictsRead.{no_stop, marks_said, cut_said, marks_long, no_covered, no_refused, no_cut}
use Rattle.crn_siphon_text.proofs.verify.next_no.Goals as goal

pub returns-in_err-next_denial-clause-step : goal.returns-in_err-next_denial-clause-step
returns-in_err-next_denial-clause-step g c =
    step_exits _ _ c.from_residual.result _ _ _ _ _ (err_from_is_err_and c.from_residual.result c.from_residual.ensures.1)
    (no_stop c.args.net.now _ c.args.at.now _ _ c.in_err-next_denial.ensures.step)

pub returns-in_err-set-clause-step : goal.returns-in_err-set-clause-step
returns-in_err-set-clause-step g c =
    let s = c.in_ok-next_denial.ensures.step in
    step_exits _ _ _ stop.NoMemory c.args.at.now _ _ _ (err_from_is_err_and _ c.from_residual-in_err-set.ensures.1)
    (memory_stops (asks_part words c.args.at.now.line (no_forms c.args.net.now)) s.0 c.args.at.now c.next_denial.new.at _ _ s.2 s.3 c.in_ok-next_denial.ensures.goes.reads)

pub next_cover-requires-clause-set : goal.next_cover-requires-clause-set
next_cover-requires-clause-set g c =
    let s = c.in_ok-next_denial.ensures.step in
    marks_long c.args.net.now _ c.next_denial.new.at.numbers.list s.0 _ (omega (arith, c.if-branch-eq6.true)) s.1 (c.deref.ensures.value ∙ c.in_ok-set.ensures ∙ ap (λ (l : List ℤ). set_of l) c.as_slice.ensures)

pub returns-then-branch-eq6-clause-step : goal.returns-then-branch-eq6-clause-step
returns-then-branch-eq6-clause-step g c =
    let net = c.args.net.now in
    let s = c.in_ok-next_denial.ensures.step in
    let mid = c.next_denial.new.at in
    let m = marks_said net _ mid.numbers.list s.0 (omega (arith, c.if-branch-eq6.true)) s.1 in
    no_covered net mid.numbers.list s.0 c.next_cover.result c.args.at.now mid c.next_cover.new.at _ _ _ (s.2, s.3) m.1 c.in_ok-next_denial.ensures.line (let h = c.next_cover.ensures.step in h mid.numbers.list (sym (c.deref.ensures.value ∙ c.in_ok-set.ensures ∙ ap (λ (l : List ℤ). set_of l) c.as_slice.ensures)))

pub rules_out_conservation-requires : goal.rules_out_conservation-requires
rules_out_conservation-requires g c =
    let s = c.in_ok-next_denial.ensures.step in
    subst (AreFree _) (sym c.as_slice-2.ensures) (cut_said c.args.net.now _ c.next_denial.new.at.numbers.list s.0 (λ e. omega (arith, e, c.if-branch-eq6.false)) s.1).0

pub returns-then-not-rules_out_conservation-clause-step : goal.returns-then-not-rules_out_conservation-clause-step
returns-then-not-rules_out_conservation-clause-step g c =
    let net = c.args.net.now in
    let s = c.in_ok-next_denial.ensures.step in
    let mid = c.next_denial.new.at in
    let cut = cut_said net _ mid.numbers.list s.0 (λ e. omega (arith, e, c.if-branch-eq6.false)) s.1 in
    no_refused net mid.numbers.list s.0 c.args.at.now mid _ _ (s.2, s.3) cut.1 c.in_ok-next_denial.ensures.line
    (λ h. false≢true (sym c.if-not-rules_out_conservation.true ∙ c.rules_out_conservation.ensures.1 (subst (RuleOutConservation net) (sym c.as_slice-2.ensures) h))) c.in_ok-next_denial.ensures.goes.reads

pub returns-clause-step : goal.returns-clause-step
returns-clause-step g c =
    let net = c.args.net.now in
    let s = c.in_ok-next_denial.ensures.step in
    let mid = c.next_denial.new.at in
    let cut = cut_said net _ mid.numbers.list s.0 (λ e. omega (arith, e, c.if-branch-eq6.false)) s.1 in
    no_cut net mid.numbers.list s.0 c.args.at.now mid _ _ (s.2, s.3) cut.1 c.in_ok-next_denial.ensures.line (subst (RuleOutConservation net) c.as_slice-2.ensures (c.rules_out_conservation.ensures.0 c.if-not-rules_out_conservation.false))
