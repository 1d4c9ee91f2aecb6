use Rattle.crn_siphon_text.proofs.Prelude.{◌≡◌, ◌∙◌, Bool, List, length, subst, sym, ap, arith, Ok, false≢true, err_from_is_err_and, AreFree, IsConservationLaw, asks_part, StepIs, StopIs, step_exits, memory_stops, words, law_forms, asks_tree}
use Rattle.crn_reading.specs.declared.fault.CheckStop.TheVariants as stop
use Rattle.crn_siphon_text.proofs.VerdictsRead.{law_free, yes_stop, yes_refused, yes_then, yes_stops}
use Rattle.crn_siphon_text.proofs.verify.next_yes.Goals as goal

pub returns-in_err-next_law-clause-step : goal.returns-in_err-next_law-clause-step
returns-in_err-next_law-clause-step g c =
    step_exits _ _ c.from_residual.result _ _ _ _ _ (err_from_is_err_and c.from_residual.result c.from_residual.ensures.1)
    (yes_stop c.args.net.now _ c.args.at.now _ _ c.in_err-next_law.ensures.step)

pub is_conservation-requires : goal.is_conservation-requires
is_conservation-requires g c =
    let s = c.in_ok-next_law.ensures.step in
    subst (AreFree _) (sym c.as_slice.ensures) (law_free c.args.net.now _ c.next_law.new.at.numbers.list s.0 s.1)

pub returns-then-not-is_conservation-clause-step : goal.returns-then-not-is_conservation-clause-step
returns-then-not-is_conservation-clause-step g c =
    let s = c.in_ok-next_law.ensures.step in
    let mid = c.next_law.new.at in
    yes_refused c.args.net.now _ s.0 c.args.at.now mid _ _ (s.2, s.3) s.1 c.in_ok-next_law.ensures.line
    (λ h. false≢true (sym c.if-not-is_conservation.true ∙ c.is_conservation.ensures.1 (subst (IsConservationLaw c.args.net.now) (sym c.as_slice.ensures) h))) c.in_ok-next_law.ensures.goes.reads

pub returns-in_err-prefix-clause-step : goal.returns-in_err-prefix-clause-step
returns-in_err-prefix-clause-step g c =
    let s = c.in_ok-next_law.ensures.step in
    step_exits _ _ _ stop.NoMemory c.args.at.now _ _ _ (err_from_is_err_and _ c.from_residual-in_err-prefix.ensures.1)
    (memory_stops (asks_part words c.args.at.now.line (law_forms c.args.net.now)) s.0 c.args.at.now c.next_law.new.at _ _ s.2 s.3 c.in_ok-next_law.ensures.goes.reads)

pub returns-in_err-next_tree-clause-step : goal.returns-in_err-next_tree-clause-step
returns-in_err-next_tree-clause-step g c =
    let net = c.args.net.now in
    let s = c.in_ok-next_law.ensures.step in
    let mid = c.next_law.new.at in
    let e = c.in_err-next_tree.field-0.0 in
    let none = c.in_ok-prefix.ensures.items in
    let law = subst (IsConservationLaw net) c.as_slice.ensures (c.is_conservation.ensures.0 c.if-not-is_conservation.false) in
    let tree = subst (λ (prefix : List Bool). StopIs (asks_tree net (length net.names) prefix mid.line) e mid (g.S.Source.seen c.next_law.new.source) (g.S.Source.seen c.next_tree.new.source)) none
    (let h = c.in_err-next_tree.ensures.step in h (length net.names) (omega (arith, ap (λ (l : List Bool). length l) none))) in
    step_exits _ _ c.from_residual-in_err-next_tree.result e c.args.at.now _ _ _ (err_from_is_err_and c.from_residual-in_err-next_tree.result c.from_residual-in_err-next_tree.ensures.1)
    (yes_stops net _ s.0 e c.args.at.now mid _ _ _ (s.2, s.3) s.1 c.in_ok-next_law.ensures.line law tree)

pub returns-clause-step : goal.returns-clause-step
returns-clause-step g c =
    let net = c.args.net.now in
    let s = c.in_ok-next_law.ensures.step in
    let mid = c.next_law.new.at in
    let new = c.next_tree.new.at in
    let none = c.in_ok-prefix.ensures.items in
    let law = subst (IsConservationLaw net) c.as_slice.ensures (c.is_conservation.ensures.0 c.if-not-is_conservation.false) in
    let tree = subst (λ (prefix : List Bool). StepIs {T = Unit {0}} (asks_tree net (length net.names) prefix mid.line) (λ _ line. line ≡ new.line) (Ok tt) mid new (g.S.Source.seen c.next_law.new.source) (g.S.Source.seen c.next_tree.new.source)) none
    (let h = c.in_ok-next_tree.ensures.step in h (length net.names) (omega (arith, ap (λ (l : List Bool). length l) none))) in
    yes_then net _ s.0 c.args.at.now mid new _ _ _ (s.2, s.3) s.1 c.in_ok-next_law.ensures.line law tree
