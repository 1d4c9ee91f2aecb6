use Rattle.crn_robust_text.proofs.Prelude.{◌≡◌, ◌∙◌, ◌++◌, ◌∷◌, [], List, map, refl, ap, Ok, Err, err_from_is_err_and, Verdict, Earlier, Question, Q1, Q2, Q5, AfterBlocks, Known, KeptFacts, IsAfterFacts, after_facts, with_next, step_exits, stops_here, HoldsBlocks, before}
use Rattle.crn_reading.specs.declared.fault.CheckStop.TheVariants as stop
use Rattle.crn_robust_text.proofs.BlocksRead.{Nothing, block_stops, block_then, block_last, first_step, later_step, first_known, second_known, third_known, all_held, if_answered}
use Rattle.crn_robust_text.proofs.verify.next_facts.Goals as goal

pub returns-in_err-none-clause-step : goal.returns-in_err-none-clause-step
returns-in_err-none-clause-step g c =
    step_exits _ _ _ stop.NoMemory c.args.at.now _ _ _ (err_from_is_err_and _ c.from_residual.ensures.1) (stops_here c.args.at.now _ c.requires.goes.reads, refl)

pub next_fact-requires-clause-known : goal.next_fact-requires-clause-known
next_fact-requires-clause-known g c =
    first_known c.args.net.now c.in_ok-none.none c.requires.network c.in_ok-none.ensures.fit (ap (λ (es : Earlier). map (λ (e : Question × Verdict). e.0) es) c.in_ok-none.ensures.empty)

pub returns-in_err-first-clause-step : goal.returns-in_err-first-clause-step
returns-in_err-first-clause-step g c =
    let at = c.args.at.now in
    let e = c.in_err-first.field-0.0 in
    let s = (let h = c.in_err-first.ensures.step in h []) in
    step_exits _ _ c.from_residual-in_err-first.result e at _ _ _ (err_from_is_err_and c.from_residual-in_err-first.result c.from_residual-in_err-first.ensures.1)
    (block_stops Q1 (Q2 ∷ Q5 ∷ []) (before c.args.net.now at.line) e at _ _ (first_step c.args.net.now at.version c.in_ok-none.none.earlier Nothing (Err e) at at _ _ c.requires.version c.in_ok-none.ensures.empty s))

pub next_fact-requires-2-clause-known : goal.next_fact-requires-2-clause-known
next_fact-requires-2-clause-known g c =
    second_known c.args.net.now c.in_ok-first.first c.requires.network c.in_ok-first.ensures.facts (c.in_ok-first.ensures.questions ∙ ap (λ (es : Earlier). with_next es 1) c.in_ok-none.ensures.empty)

pub returns-in_err-second-clause-step : goal.returns-in_err-second-clause-step
returns-in_err-second-clause-step g c =
    let net = c.args.net.now in
    let at = c.args.at.now in
    let mid = c.next_fact.new.at in
    let first = c.in_ok-first.first in
    let e = c.in_err-second.field-0.0 in
    let s = first_step net at.version c.in_ok-none.none.earlier (λ (made : KeptFacts) (y : AfterBlocks Known). IsAfterFacts net made.earlier mid.line y) (Ok first) at mid _ _ c.requires.version c.in_ok-none.ensures.empty (let h = c.in_ok-first.ensures.step in h []) in
    let after = s.1 in
    let here = after_facts net first.earlier mid.line after.0 in
    step_exits _ _ c.from_residual-in_err-second.result e at _ _ _ (err_from_is_err_and c.from_residual-in_err-second.result c.from_residual-in_err-second.ensures.1)
    (block_then Q1 (Q2 ∷ Q5 ∷ []) net first.earlier (before net at.line) s.0 Nothing (Err e) at mid mid _ _ _ after s.2 s.3
    (block_stops Q2 (Q5 ∷ []) here e mid _ _ (later_step mid.version Q2 here Nothing (Err e) mid mid _ _ (c.in_ok-first.ensures.version ∙ c.requires.version) (let h = c.in_err-second.ensures.step in h after.0))))

pub next_fact-requires-3-clause-known : goal.next_fact-requires-3-clause-known
next_fact-requires-3-clause-known g c =
    third_known c.args.net.now c.in_ok-second.second c.requires.network c.in_ok-second.ensures.facts
    (c.in_ok-second.ensures.questions ∙ ap (λ (qs : List Question). qs ++ Q2 ∷ []) (c.in_ok-first.ensures.questions ∙ ap (λ (es : Earlier). with_next es 1) c.in_ok-none.ensures.empty))

pub returns-clause-step : goal.returns-clause-step
returns-clause-step g c =
    let net = c.args.net.now in
    let at = c.args.at.now in
    let mid = c.next_fact.new.at in
    let next = c.next_fact-2.new.at in
    let new = c.next_fact-3.new.at in
    let first = c.in_ok-first.first in
    let second = c.in_ok-second.second in
    let result = c.next_fact-3.result in
    let last : KeptFacts → AfterBlocks Known → Type 0 = λ made y. IsAfterFacts net made.earlier new.line y in
    let s = first_step net at.version c.in_ok-none.none.earlier (λ (made : KeptFacts) (y : AfterBlocks Known). IsAfterFacts net made.earlier mid.line y) (Ok first) at mid _ _ c.requires.version c.in_ok-none.ensures.empty (let h = c.in_ok-first.ensures.step in h []) in
    let after = s.1 in
    let here = after_facts net first.earlier mid.line after.0 in
    let one = c.in_ok-first.ensures.version ∙ c.requires.version in
    let t = later_step mid.version Q2 here (λ (made : KeptFacts) (y : AfterBlocks Known). IsAfterFacts net made.earlier next.line y) (Ok second) mid next _ _ one (let h = c.in_ok-second.ensures.step in h after.0) in
    let then = t.1 in
    let there = after_facts net second.earlier next.line then.0 in
    let u = later_step next.version Q5 there last result next new _ _ (c.in_ok-second.ensures.version ∙ one) (let h = c.next_fact-3.ensures.step in h then.0) in
    block_then Q1 (Q2 ∷ Q5 ∷ []) net first.earlier (before net at.line) s.0 last result at mid new _ _ _ after s.2 s.3
    (block_then Q2 (Q5 ∷ []) net second.earlier here t.0 last result mid next new _ _ _ then t.2 t.3
    (block_last Q5 there last result next new _ _ u))

pub returns-clause-holds : goal.returns-clause-holds
returns-clause-holds g c =
    let asks = (c.in_ok-second.ensures.questions ∙ ap (λ (qs : List Question). qs ++ Q2 ∷ []) (c.in_ok-first.ensures.questions ∙ ap (λ (es : Earlier). with_next es 1) c.in_ok-none.ensures.empty)) in
    if_answered (λ (made : KeptFacts). map (λ (e : Question × Verdict). e.0) made.earlier ≡ with_next c.in_ok-second.second.earlier 5) (λ (made : KeptFacts). HoldsBlocks made.earlier) c.next_fact-3.result
    (λ made e. all_held made.earlier (e ∙ ap (λ (qs : List Question). qs ++ Q5 ∷ []) asks)) c.next_fact-3.ensures.questions
