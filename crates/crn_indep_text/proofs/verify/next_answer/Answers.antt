use Rattle.crn_indep_text.proofs.Prelude.{◌≡◌, ℕ, sym, subst, ◌∙◌, arith, err_from_is_err_and, asks_part, step_exits, memory_stops, words, first_forms, asks_split, ReadsSeen}
use Rattle.crn_reading.specs.declared.fault.CheckStop.TheVariants as stop
use Rattle.crn_indep_text.proofs.AnswersRead.{answer_stop, answer_split, answer_open, rank_said, one_number_is}
use Rattle.crn_indep_text.proofs.verify.next_answer.Goals as goal

pub returns-in_err-place-clause-step : goal.returns-in_err-place-clause-step
returns-in_err-place-clause-step g c =
    step_exits _ _ c.from_residual.result _ _ _ _ _ (err_from_is_err_and c.from_residual.result c.from_residual.ensures.1) (answer_stop c.args.net.now _ c.args.at.now _ _ c.in_err-place.ensures.step)

pub rank_of-rank-requires : goal.rank_of-rank-requires
rank_of-rank-requires g c =
    let s = c.in_ok-place.ensures.step in
    let r = rank_said c.args.net.now _ c.next_first.new.at.numbers.list s.0 (omega (arith, c.if-place-eq0.true)) s.1 in
    (r.0, c.as_slice.ensures ∙ r.2, omega (arith, r.3.1, c.meets_definition.ensures.partial.reactions_limit))

pub next_split-requires-clause-rank : goal.next_split-requires-clause-rank
next_split-requires-clause-rank g c =
    let s = c.in_ok-place.ensures.step in
    let r = rank_said c.args.net.now _ c.next_first.new.at.numbers.list s.0 (omega (arith, c.if-place-eq0.true)) s.1 in
    let same : r.0 ≡ c.rank_of-rank.result = one_number_is r.0 c.rank_of-rank.result c.next_first.new.at.numbers.list r.2 (sym c.as_slice.ensures ∙ c.rank_of-rank.ensures) in
    (omega (arith, same, r.3.0), omega (arith, same, r.3.1), omega (arith, same, r.3.1))

pub returns-then-place-eq0-clause-step : goal.returns-then-place-eq0-clause-step
returns-then-place-eq0-clause-step g c =
    let net = c.args.net.now in
    let s = c.in_ok-place.ensures.step in
    let r = rank_said net _ c.next_first.new.at.numbers.list s.0 (omega (arith, c.if-place-eq0.true)) s.1 in
    let same : c.rank_of-rank.result ≡ r.0 = sym (one_number_is r.0 c.rank_of-rank.result c.next_first.new.at.numbers.list r.2 (sym c.as_slice.ensures ∙ c.rank_of-rank.ensures)) in
    answer_split net r.0 s.0 c.next_split.result c.args.at.now c.next_first.new.at c.next_split.new.at _ _ _ r.1 (s.2, s.3)
    (subst (λ (n : ℕ). ReadsSeen (asks_split net c.args.at.now.line n) c.next_split.result c.next_first.new.at c.next_split.new.at (g.S.Source.seen c.next_first.new.source) (g.S.Source.seen c.next_split.new.source)) same (let h = c.next_split.ensures.step in h c.args.at.now.line (sym c.in_ok-place.ensures.line)))

pub returns-in_err-seen-clause-step : goal.returns-in_err-seen-clause-step
returns-in_err-seen-clause-step g c =
    let s = c.in_ok-place.ensures.step in
    step_exits _ _ _ stop.NoMemory c.args.at.now _ _ _ (err_from_is_err_and _ c.from_residual-in_err-seen.ensures.1)
    (memory_stops (asks_part words c.args.at.now.line (first_forms c.args.net.now)) s.0 c.args.at.now c.next_first.new.at _ _ s.2 s.3 c.in_ok-place.ensures.goes.reads)

pub returns-clause-step : goal.returns-clause-step
returns-clause-step g c =
    let s = c.in_ok-place.ensures.step in
    answer_open c.args.net.now _ c.next_first.new.at.numbers.list s.0 c.in_ok-seen.seen c.args.at.now c.next_first.new.at _ _ (λ e. omega (arith, e, c.if-place-eq0.false)) s.1 (s.2, s.3) c.in_ok-place.ensures.line c.in_ok-seen.ensures.0 c.in_ok-seen.ensures.1
