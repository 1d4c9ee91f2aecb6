use Rattle.crn_document.proofs.Prelude.{◌≡◌, ◌≤◌, ◌<◌, ◌+◌, ◌-◌, ◌∙◌, ◌∷◌, ◌++◌, [], List, length, map, drop, take, refl, sym, subst, ap, ap₂, ℕ, Bool, arith, rules, err_from_is_err_and, built, Question, section_form, AfterBlocks, asks_all, asks_block, asks_blocks, after_sections, sections, Known, meaning, StepGives, asked, IsAfter, IsReady, after_by, StepIs, StopIs, step_exits, step_then_is, stop_after, stop_first}
use Rattle.crn_document.proofs.Linkages.{known_for}
use Rattle.crn_document.proofs.Places.{all_taken, none_left}
use Rattle.crn_document.proofs.Sections.{after_is, blocks_by, no_blocks, question_course}
use Rattle.crn_document.proofs.questions.+next_blocks.Goals as goal

last_place : (place : ℕ) → place ≤ length built + 1 → 15 < place → place ≡ 16
last_place place most high = let few : place ≤ 16 = most in omega (arith, few, high)

pub next_section-requires-clause-built : goal.next_section-requires-clause-built
next_section-requires-clause-built g t c = let q = c.question_at-question.ensures in q.answered

pub next_block-requires-clause-built : goal.next_block-requires-clause-built
next_block-requires-clause-built g t c = let q = c.question_at-question.ensures in q.answered

pub next_block-requires-clause-ready : goal.next_block-requires-clause-ready
next_block-requires-clause-ready g t c =
    let q = c.question_at-question.ensures in
    let ready = subst (λ (qs : List Question). IsReady c.args.net.now qs c.args.checked.now) q.earlier c.requires.ready in
    record { known = known_for c.args.net.now c.question_at-question.result c.args.checked.now.facts q.answered ready.known; sides = ready.sides }

pub next_blocks-requires : goal.next_blocks-requires
next_blocks-requires g t c =
    let q = c.question_at-question.ensures in
    let same : c.args.place ≡ c.args.place + 1 - 1 = omega arith in
    let ready : IsReady c.args.net.now (take (c.args.place + 1 - 1) built) c.next_block.new.checked = subst (λ (qs : List Question). IsReady c.args.net.now qs c.next_block.new.checked) (ap (λ (qs : List Question). qs ++ asked c.question_at-question.result ∷ []) (c.requires.ready.known.so_far ∙ q.earlier) ∙ q.with_it ∙ ap (λ (k : ℕ). take k built) same) c.in_ok-next_block.ensures.ready in
    search (rules, ready)

pub returns-then-place-gt-LAST-clause-ready : goal.returns-then-place-gt-LAST-clause-ready
returns-then-place-gt-LAST-clause-ready g t c = subst (λ (qs : List Question). IsReady c.args.net.now qs c.args.checked.now) (all_taken c.args.place (last_place c.args.place c.requires.last c.if-place-gt-LAST.true)) c.requires.ready

pub returns-then-place-gt-LAST-clause-step : goal.returns-then-place-gt-LAST-clause-step
returns-then-place-gt-LAST-clause-step g t c = λ blocks.
    let table = c.args.table.now in
    let here = after_by c.args.net.now c.args.checked.now.facts.earlier c.args.checked.now.by_tree c.args.at.now.line blocks in
    no_blocks (λ (t : Unit {0}) y. IsAfter c.args.net.now c.args.checked.now.facts.earlier c.args.checked.now.by_tree c.args.at.now.line y) c.args.at.now.version table (drop (c.args.place - 1) built) here c.args.at.now (g.S.Source.seen c.args.source.now) (none_left c.args.place (last_place c.args.place c.requires.last c.if-place-gt-LAST.true)) (blocks, refl)

pub returns-in_err-after_tree-clause-step : goal.returns-in_err-after_tree-clause-step
returns-in_err-after_tree-clause-step g t c = λ blocks.
    let table = c.args.table.now in
    let at = c.args.at.now in
    let p = c.args.place in
    let q = asked c.question_at-question.result in
    let qs = drop (p + 1 - 1) built in
    let e = c.in_err-after_tree.field-0.0 in
    let before = g.S.Source.seen c.args.source.now in
    let now = g.S.Source.seen c.next_section.new.source in
    let tree = c.args.checked.now.by_tree in
    let here = after_by c.args.net.now c.args.checked.now.facts.earlier tree at.line blocks in
    let is : drop (p - 1) built ≡ q ∷ qs = (let i = c.question_at-question.ensures in i.later ∙ ap (λ (k : ℕ). q ∷ drop k built) (omega arith)) in
    step_exits _ _ c.from_residual.result e _ _ _ _ (err_from_is_err_and c.from_residual.result c.from_residual.ensures.1)
    (blocks_by (λ d. StopIs d e at before now) at.version table q qs (drop (p - 1) built) here is
    (stop_first (asks_all at.version at.line tree (map section_form (sections at.version q))) (question_course at.version table q qs here) e at before now c.in_err-after_tree.ensures.step))

pub returns-in_err-next_block-clause-step : goal.returns-in_err-next_block-clause-step
returns-in_err-next_block-clause-step g t c = λ blocks.
    let table = c.args.table.now in
    let at = c.args.at.now in
    let mid = c.next_section.new.at in
    let p = c.args.place in
    let q = asked c.question_at-question.result in
    let qs = drop (p + 1 - 1) built in
    let e = c.in_err-next_block.field-0.0 in
    let net = c.args.net.now in
    let earlier = c.args.checked.now.facts.earlier in
    let before = g.S.Source.seen c.args.source.now in
    let between = g.S.Source.seen c.next_section.new.source in
    let now = g.S.Source.seen c.next_block.new.source in
    let tree = c.args.checked.now.by_tree in
    let here = after_by net earlier tree at.line blocks in
    let is : drop (p - 1) built ≡ q ∷ qs = (let i = c.question_at-question.ensures in i.later ∙ ap (λ (k : ℕ). q ∷ drop k built) (omega arith)) in
    let s = c.in_ok-after_tree.ensures.step in
    let same_place : after_by net earlier c.in_ok-after_tree.after_tree mid.line blocks ≡ after_sections s.0 here = ap₂ (λ (b : Bool) (k : ℕ). after_by net earlier b k blocks) s.1.1 s.1.0 ∙ sym (after_is net earlier tree at.line blocks s.0) in
    let b = let w = c.in_err-next_block.ensures.step in w blocks in
    let stopped : StopIs (asks_block meaning at.version table q (after_sections s.0 here)) e mid between now =
    subst (λ (v : ℕ). StopIs (asks_block meaning v table q (after_sections s.0 here)) e mid between now) c.in_ok-after_tree.ensures.version
    (subst (λ (p : AfterBlocks Known). StopIs (asks_block meaning mid.version table q p) e mid between now) same_place b) in
    step_exits _ _ _ e _ _ _ _ (err_from_is_err_and _ c.from_residual-in_err-next_block.ensures.1)
    (blocks_by (λ d. StopIs d e at before now) at.version table q qs (drop (p - 1) built) here is
    (stop_after (asks_all at.version at.line tree (map section_form (sections at.version q))) (question_course at.version table q qs here) s.0 e at mid before between now s.2 s.3
    (stop_first (asks_block meaning at.version table q (after_sections s.0 here)) (λ after. asks_blocks meaning at.version table qs after) e mid between now stopped)))

pub returns-clause-step : goal.returns-clause-step
returns-clause-step g t c = λ blocks.
    let table = c.args.table.now in
    let at = c.args.at.now in
    let mid = c.next_section.new.at in
    let later = c.next_block.new.at in
    let new = c.next_blocks.new.at in
    let p = c.args.place in
    let q = asked c.question_at-question.result in
    let qs = drop (p + 1 - 1) built in
    let net = c.args.net.now in
    let earlier = c.args.checked.now.facts.earlier in
    let known = c.next_block.new.checked.facts.earlier in
    let s0 = g.S.Source.seen c.args.source.now in
    let s1 = g.S.Source.seen c.next_section.new.source in
    let s2 = g.S.Source.seen c.next_block.new.source in
    let s3 = g.S.Source.seen c.next_blocks.new.source in
    let tree = c.args.checked.now.by_tree in
    let here = after_by net earlier tree at.line blocks in
    let is : drop (p - 1) built ≡ q ∷ qs = (let i = c.question_at-question.ensures in i.later ∙ ap (λ (k : ℕ). q ∷ drop k built) (omega arith)) in
    let s = c.in_ok-after_tree.ensures.step in
    let same_place : after_by net earlier c.in_ok-after_tree.after_tree mid.line blocks ≡ after_sections s.0 here = ap₂ (λ (b : Bool) (k : ℕ). after_by net earlier b k blocks) s.1.1 s.1.0 ∙ sym (after_is net earlier tree at.line blocks s.0) in
    let b = let w = c.in_ok-next_block.ensures.step in w blocks in
    let given : StepGives (asks_block meaning at.version table q (after_sections s.0 here)) b.0 mid.line later.line mid.lines later.lines s1.left s2.left =
    subst (λ (v : ℕ). StepGives (asks_block meaning v table q (after_sections s.0 here)) b.0 mid.line later.line mid.lines later.lines s1.left s2.left) c.in_ok-after_tree.ensures.version
    (subst (λ (p : AfterBlocks Known). StepGives (asks_block meaning mid.version table q p) b.0 mid.line later.line mid.lines later.lines s1.left s2.left) same_place b.2) in
    let after = b.1 in
    let rest = let w = c.next_blocks.ensures.step in w after.0 in
    let version : later.version ≡ at.version = c.in_ok-next_block.ensures.version ∙ c.in_ok-after_tree.ensures.version in
    let Says : Unit {0} → AfterBlocks Known → Type 0 = λ t y. IsAfter net c.next_blocks.new.checked.facts.earlier c.next_blocks.new.checked.by_tree new.line y in
    let tail : StepIs (asks_blocks meaning at.version table qs b.0) Says c.next_blocks.result later new s2 s3 =
    subst (λ (v : ℕ). StepIs (asks_blocks meaning v table qs b.0) Says c.next_blocks.result later new s2 s3) version
    (subst (λ (p : AfterBlocks Known). StepIs (asks_blocks meaning later.version table qs p) Says c.next_blocks.result later new s2 s3) (sym after.1) rest) in
    blocks_by (λ d. StepIs d Says c.next_blocks.result at new s0 s3) at.version table q qs (drop (p - 1) built) here is
    (step_then_is (asks_all at.version at.line tree (map section_form (sections at.version q))) (question_course at.version table q qs here) s.0 Says c.next_blocks.result at mid new s0 s1 s3 s.2 s.3
    (step_then_is (asks_block meaning at.version table q (after_sections s.0 here)) (λ end. asks_blocks meaning at.version table qs end) b.0 Says c.next_blocks.result mid later new s1 s2 s3 given b.3 tail))
