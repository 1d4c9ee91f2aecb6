use Rattle.crn_endo_text.proofs.Prelude.{◌≡◌, ◌∙◌, refl, ℕ, List, subst, sym, ap, arith, Ok, Err, ℤ, pos, nat_abs, slice_index_or, err_from_is_err_and, step_exits, stops_here, asks_endo, asks_no, ReadsSeen, Yes}
use Rattle.crn_reading.specs.declared.fault.CheckStop.TheVariants as stop
use Rattle.crn_endo_text.proofs.VerdictsRead.{answer_stop, answer_yes, answer_no, answer_open, yes_small, yes_read, yes_then, no_reaction}
use Rattle.crn_endo_text.proofs.verify.next_answer.Goals as goal

pub returns-in_err-given-clause-step : goal.returns-in_err-given-clause-step
returns-in_err-given-clause-step g c =
    let at = c.args.at.now in
    let seen = g.S.Source.seen c.args.source.now in
    step_exits (asks_endo c.args.net.now at.line) _ c.from_residual.result stop.NoMemory at at seen seen (err_from_is_err_and c.from_residual.result c.from_residual.ensures.1) (stops_here at seen.left c.requires.reads, refl)

pub returns-in_err-place-clause-step : goal.returns-in_err-place-clause-step
returns-in_err-place-clause-step g c =
    step_exits _ _ c.from_residual-in_err-place.result _ _ _ _ _ (err_from_is_err_and c.from_residual-in_err-place.result c.from_residual-in_err-place.ensures.1)
    (answer_stop c.args.net.now _ c.args.at.now _ _ c.in_err-place.ensures.step)

pub next_trees-requires-clause-small : goal.next_trees-requires-clause-small
next_trees-requires-clause-small g c =
    let s = c.in_ok-place.ensures.step in
    (yes_small c.args.net.now _ c.next_verdict.new.at.numbers.list s.0 (omega (arith, c.if-place-eq0.true)) s.1).0

pub returns-in_err-next_trees-clause-step : goal.returns-in_err-next_trees-clause-step
returns-in_err-next_trees-clause-step g c =
    let net = c.args.net.now in
    let s = c.in_ok-place.ensures.step in
    let mid = c.next_verdict.new.at in
    let e = c.in_err-next_trees.field-0.0 in
    let y = yes_small net _ mid.numbers.list s.0 (omega (arith, c.if-place-eq0.true)) s.1 in
    step_exits _ _ c.from_residual-in_err-next_trees.result e c.args.at.now _ _ _ (err_from_is_err_and c.from_residual-in_err-next_trees.result c.from_residual-in_err-next_trees.ensures.1)
    (answer_yes net s.0 (Err e) c.args.at.now mid c.next_trees.new.at _ _ _ (s.2, s.3) y.1 c.in_ok-place.ensures.line (yes_read net (Err e) mid c.next_trees.new.at _ _ c.in_err-next_trees.ensures.step))

pub returns-then-place-eq0-clause-step : goal.returns-then-place-eq0-clause-step
returns-then-place-eq0-clause-step g c =
    let net = c.args.net.now in
    let s = c.in_ok-place.ensures.step in
    let mid = c.next_verdict.new.at in
    let y = yes_small net _ mid.numbers.list s.0 (omega (arith, c.if-place-eq0.true)) s.1 in
    answer_yes net s.0 (Ok Yes) c.args.at.now mid c.next_trees.new.at _ _ _ (s.2, s.3) y.1 c.in_ok-place.ensures.line (yes_then net mid c.next_trees.new.at _ _ c.in_ok-next_trees.ensures.step)

pub reaction_of-reaction-requires : goal.reaction_of-reaction-requires
reaction_of-reaction-requires g c =
    let s = c.in_ok-place.ensures.step in
    let k = no_reaction c.args.net.now _ c.next_verdict.new.at.numbers.list s.0 (omega (arith, c.if-place-eq1.true)) s.1 in
    (k.0, c.as_slice.ensures ∙ k.1, omega (arith, k.2.1, c.meets_definition.ensures.partial.reactions_limit))

pub next_no-requires-clause-reaction : goal.next_no-requires-clause-reaction
next_no-requires-clause-reaction g c =
    let s = c.in_ok-place.ensures.step in
    let k = no_reaction c.args.net.now _ c.next_verdict.new.at.numbers.list s.0 (omega (arith, c.if-place-eq1.true)) s.1 in
    let same : c.reaction_of-reaction.result ≡ k.0 = ap (λ (l : List ℤ). nat_abs (slice_index_or l 0 (pos 0))) (sym c.reaction_of-reaction.ensures ∙ c.as_slice.ensures ∙ k.1) in
    (omega (arith, same, k.2.0), omega (arith, same, k.2.1))

pub returns-then-place-eq1-clause-step : goal.returns-then-place-eq1-clause-step
returns-then-place-eq1-clause-step g c =
    let net = c.args.net.now in
    let s = c.in_ok-place.ensures.step in
    let mid = c.next_verdict.new.at in
    let k = no_reaction net _ mid.numbers.list s.0 (omega (arith, c.if-place-eq1.true)) s.1 in
    let same : c.reaction_of-reaction.result ≡ k.0 = ap (λ (l : List ℤ). nat_abs (slice_index_or l 0 (pos 0))) (sym c.reaction_of-reaction.ensures ∙ c.as_slice.ensures ∙ k.1) in
    let new = c.next_no.new.at in
    let now = g.S.Source.seen c.next_no.new.source in
    answer_no net s.0 k.0 c.next_no.result c.args.at.now mid new _ _ now (s.2, s.3) k.3 c.in_ok-place.ensures.line
    (subst (λ (j : ℕ). ReadsSeen (asks_no net j mid.line) c.next_no.result mid new (g.S.Source.seen c.next_verdict.new.source) now) same c.next_no.ensures.step)

pub returns-clause-step : goal.returns-clause-step
returns-clause-step g c =
    let s = c.in_ok-place.ensures.step in
    answer_open c.args.net.now _ s.0 c.args.at.now c.next_verdict.new.at _ _ (λ e. omega (arith, e, c.if-place-eq0.false)) (λ e. omega (arith, e, c.if-place-eq1.false)) s.1 (s.2, s.3) c.in_ok-place.ensures.line
