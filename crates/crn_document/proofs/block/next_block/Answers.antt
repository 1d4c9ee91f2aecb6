use Rattle.crn_document.proofs.Prelude.{◌≡◌, ◌+◌, sym, subst, ℕ, err_from_is_err_and, asks, asked, head_forms, IsAfter, after_at, head_course, StepIs, step_exits, step_then_is, stop_first}
use Rattle.crn_document.proofs.block.next_block.Goals as goal

pub after_head-requires-clause-head : goal.after_head-requires-clause-head
after_head-requires-clause-head g c = let s = c.in_ok-next_head.ensures.step in (s.0, s.1)

pub returns-in_err-next_head-clause-step : goal.returns-in_err-next_head-clause-step
returns-in_err-next_head-clause-step g c = λ blocks.
    let table = c.args.table.now in
    let at = c.args.at.now in
    let earlier = c.args.checked.now.facts.earlier in
    let e = c.in_err-next_head.field-0.0 in
    let q = asked c.args.question in
    step_exits _ _ c.from_residual.result e _ _ _ _ (err_from_is_err_and c.from_residual.result c.from_residual.ensures.1)
    (stop_first (asks at.version at.line c.args.after_tree (head_forms c.args.net.now c.args.checked.now.facts.earlier c.args.question)) (λ h. head_course at.version table q (after_at c.args.net.now earlier at.line blocks) h) e at _ _ c.in_err-next_head.ensures.step)

pub returns-clause-step : goal.returns-clause-step
returns-clause-step g c = λ blocks.
    let table = c.args.table.now in
    let at = c.args.at.now in
    let mid = c.next_head.new.at in
    let new = c.after_head.new.at in
    let earlier = c.args.checked.now.facts.earlier in
    let q = asked c.args.question in
    let s = c.in_ok-next_head.ensures.step in
    let next : at.line + 1 ≡ mid.line = sym c.in_ok-next_head.ensures.line in
    let after = let a = c.after_head.ensures.step in a s.0 at.line blocks s.1 next in
    step_then_is (asks at.version at.line c.args.after_tree (head_forms c.args.net.now c.args.checked.now.facts.earlier c.args.question)) (λ h. head_course at.version table q (after_at c.args.net.now earlier at.line blocks) h) s.0 (λ (t : Unit {0}) y. IsAfter c.args.net.now c.after_head.new.checked.facts.earlier c.after_head.new.checked.by_tree new.line y) c.after_head.result at mid new (g.S.Source.seen c.args.source.now) (g.S.Source.seen c.next_head.new.source) (g.S.Source.seen c.after_head.new.source) s.2 s.3
    (subst (λ (v : ℕ). StepIs (head_course v table q (after_at c.args.net.now earlier at.line blocks) s.0) (λ (t : Unit {0}) y. IsAfter c.args.net.now c.after_head.new.checked.facts.earlier c.after_head.new.checked.by_tree new.line y) c.after_head.result mid new (g.S.Source.seen c.next_head.new.source) (g.S.Source.seen c.after_head.new.source)) c.next_head.ensures.version after)
