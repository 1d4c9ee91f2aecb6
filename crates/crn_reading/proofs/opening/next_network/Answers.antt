use Rattle.crn_reading.proofs.Prelude.{◌≡◌, ◌+◌, ◌++◌, ◌∙◌, ℕ, List, Option, Some, None, inl, inr, sym, ap, subst, refl, false≢true, err_from_is_err_and, Net, find, asks_lines, ended, IsNetworkOf, IsCanonicalText, BadNetwork}
use Rattle.crn_reading.specs.declared.fault.CheckStop.TheVariants as stop
use Rattle.crn_reading.proofs.Steps.{stop_first, step_exits}
use Rattle.crn_reading.proofs.FoundLines.{lines_found, lines_refused, memory_after}
use Rattle.crn_reading.proofs.LongLines.{no_long_line}
use Rattle.crn_reading.proofs.opening.next_network.Goals as goal

pub returns-in_err-next_lines-clause-step : goal.returns-in_err-next_lines-clause-step
returns-in_err-next_lines-clause-step g c =
    step_exits _ _ c.from_residual.result _ _ _ _ _ (err_from_is_err_and c.from_residual.result c.from_residual.ensures.1)
    (stop_first (asks_lines c.args.count) (λ (lines : List (List ℕ)). find (2 + c.args.count) BadNetwork Net (IsNetworkOf lines)) _ _ _ _ c.in_err-next_lines.ensures.step)

pub returns-then-long-clause-step : goal.returns-then-long-clause-step
returns-then-long-clause-step g c =
    let s = c.in_ok-next_lines.ensures.step in
    lines_refused (asks_lines c.args.count) (2 + c.args.count) BadNetwork IsNetworkOf s.0 c.args.at.now c.next_lines.new.at _ _ s.2 s.3 c.in_ok-next_lines.ensures.goes.reads
    (λ (n : Net) is. elim (s.1.0 c.if-long.true) [ inl first ↦ false≢true first | inr long ↦ no_long_line n s.0 is.0 is.1 long ])

pub returns-in_err-net-clause-step : goal.returns-in_err-net-clause-step
returns-in_err-net-clause-step g c =
    let s = c.in_ok-next_lines.ensures.step in
    step_exits _ _ _ stop.NoMemory _ _ _ _ (err_from_is_err_and _ c.from_residual-in_err-net.ensures.1)
    (memory_after (asks_lines c.args.count) (λ (lines : List (List ℕ)). find (2 + c.args.count) BadNetwork Net (IsNetworkOf lines)) s.0 c.args.at.now c.next_lines.new.at _ _ s.2 s.3 c.in_ok-next_lines.ensures.goes.reads)

pub returns-in-Some-clause-step : goal.returns-in-Some-clause-step
returns-in-Some-clause-step g c =
    let s = c.in_ok-next_lines.ensures.step in
    let shown : IsCanonicalText c.deref.result.now (Some c.in-Some.net) = subst (λ (o : Option Net). IsCanonicalText c.deref.result.now o) c.in-Some.is c.in_ok-net.ensures in
    let text : c.deref.result.now ≡ ended s.0 = c.deref.ensures.value ∙ (let k = s.1.1 c.if-long.false in k.1) ∙ ap (λ (t : List ℕ). t ++ ended s.0) c.new-text.ensures.items in
    lines_found (asks_lines c.args.count) (2 + c.args.count) BadNetwork IsNetworkOf s.0 c.in-Some.net c.in-Some.net (λ (net n : Net). n ≡ net) c.args.at.now c.next_lines.new.at _ _ s.2 s.3 (shown.0, shown.1 ∙ text) refl

pub returns-clause-step : goal.returns-clause-step
returns-clause-step g c =
    let s = c.in_ok-next_lines.ensures.step in
    let shown : IsCanonicalText c.deref.result.now None = subst (λ (o : Option Net). IsCanonicalText c.deref.result.now o) c.in-None.is c.in_ok-net.ensures in
    let text : c.deref.result.now ≡ ended s.0 = c.deref.ensures.value ∙ (let k = s.1.1 c.if-long.false in k.1) ∙ ap (λ (t : List ℕ). t ++ ended s.0) c.new-text.ensures.items in
    lines_refused (asks_lines c.args.count) (2 + c.args.count) BadNetwork IsNetworkOf s.0 c.args.at.now c.next_lines.new.at _ _ s.2 s.3 c.in_ok-next_lines.ensures.goes.reads
    (λ (n : Net) is. shown n is.0 (is.1 ∙ sym text))

pub returns-in-Some-clause-network : goal.returns-in-Some-clause-network
returns-in-Some-clause-network g c =
    let shown : IsCanonicalText c.deref.result.now (Some c.in-Some.net) = subst (λ (o : Option Net). IsCanonicalText c.deref.result.now o) c.in-Some.is c.in_ok-net.ensures in shown.0
