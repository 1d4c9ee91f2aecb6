use Rattle.crn_reading.proofs.Prelude.{◌≡◌, ◌+◌, ℕ, List, sym, ap₂, subst, Result, Ok, Err, OnOk, SourceSeen, err_from_is_err_and, Net, BadNetwork, Course, Give, find, ◌>>=◌, IsNetworkOf, asks_lines, count_course, network_course, part_title_course, Reading, CheckStop, StepIs}
use Rattle.crn_reading.proofs.Steps.{step_exits, step_map, step_then_is, stop_after, stop_first}
use Rattle.crn_reading.proofs.Texts.{steps_all}
use Rattle.crn_reading.proofs.opening.read_part_head.Goals as goal

-- what follows the number of lines, and what follows the title
abbrev network_of : ℕ → List (List ℕ) → Course Net
network_of count lines = find (2 + count) BadNetwork Net (IsNetworkOf lines)

abbrev opened : ℕ → Net → Course (Net × ℕ)
opened count net = Give (net, 3 + count)

abbrev after_count : ℕ → Course (Net × ℕ)
after_count count = asks_lines count >>= (λ lines. network_of count lines >>= opened count)

abbrev after_title : Course (Net × ℕ)
after_title = count_course >>= after_count

pub returns-in_err-next_part_title-clause-step : goal.returns-in_err-next_part_title-clause-step
returns-in_err-next_part_title-clause-step g c =
    step_exits _ _ c.from_residual.result _ _ _ _ _ (err_from_is_err_and c.from_residual.result c.from_residual.ensures.1)
    (stop_first (part_title_course c.args.part.now) (λ x. after_title) _ _ _ _ c.in_err-next_part_title.ensures.step)

pub returns-in_err-count-clause-step : goal.returns-in_err-count-clause-step
returns-in_err-count-clause-step g c =
    let e = c.in_err-count.field-0.0 in
    let s = c.in_ok-next_part_title.ensures.step in
    step_exits _ _ c.from_residual-in_err-count.result _ _ _ _ _ (err_from_is_err_and c.from_residual-in_err-count.result c.from_residual-in_err-count.ensures.1)
    (stop_after (part_title_course c.args.part.now) (λ x. after_title) s.0 e c.args.at.now c.next_part_title.new.at _ _ _ s.2 s.3
    (stop_first count_course after_count e c.next_part_title.new.at _ _ c.in_err-count.ensures.step))

-- what a step gives, said in other words, by what holds if it does
on_ok : {A T : Type 0} (c : Course A) (Says More : T → A → Type 0) (P : Type 0) (result : Result T CheckStop) (old new : Reading) (before now : SourceSeen)
    → OnOk result P → (P → (t : T) (y : A) → Says t y → More t y) → StepIs c Says result old new before now → StepIs c More result old new before now
on_ok c Says More P (Ok t) old new before now h k p = (p.0, k h t p.0 p.1, p.2, p.3)
on_ok c Says More P (Err e) old new before now h k p = p

pub returns-clause-step : goal.returns-clause-step
returns-clause-step g c =
    let s = c.in_ok-next_part_title.ensures.step in
    let t = c.in_ok-count.ensures.step in
    let count : ℕ = c.in_ok-count.count in
    let zero = g.S.Source.seen c.args.source.now in
    let one = g.S.Source.seen c.next_part_title.new.source in
    let two = g.S.Source.seen c.next_count.new.source in
    let now = g.S.Source.seen c.next_network.new.source in
    let first = c.next_part_title.new.at in
    let second = c.next_count.new.at in
    let last = c.next_network.new.at in
    let result = c.next_network.result in
    let Says : Net → Net × ℕ → Type 0 = λ net x. x ≡ (net, last.line) in
    let found = on_ok (network_course count) (λ (net n : Net). n ≡ net) (λ (net n : Net). (n ≡ net) × (last.line ≡ 3 + count)) (last.line ≡ 3 + count) result second last two now c.next_network.ensures.line (λ h net n same. (same, h)) c.next_network.ensures.step in
    let mapped = step_map (network_course count) (λ (n : Net). (n, 3 + count)) (λ (net n : Net). (n ≡ net) × (last.line ≡ 3 + count)) Says result second last two now (λ net n same. ap₂ (λ (x : Net) (k : ℕ). (x, k)) same.0 (sym same.1)) found in
    step_then_is (part_title_course c.args.part.now) (λ x. after_title) s.0 Says result c.args.at.now first last zero one now s.2 s.3
    (step_then_is count_course after_count t.0 Says result first second last one two now t.2 t.3
    (subst (λ (k : ℕ). StepIs (after_count k) Says result second last two now) (sym t.1)
    (steps_all (asks_lines count) (network_of count) (opened count) Says result second last two now mapped)))
