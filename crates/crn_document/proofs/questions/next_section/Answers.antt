use Rattle.crn_document.proofs.Prelude.{◌≡◌, ◌≤◌, ◌-◌, ◌∷◌, [], List, map, sym, subst, ℕ, Bool, false, arith, Ok, err_from_is_err_and, StepGives, IsOpened, step_exits, slice_index_or, section_form, opens, section_names, asks_all, sections, asked, StepIs, StopIs}
use Rattle.crn_document.proofs.Records.{as_expected}
use Rattle.crn_document.proofs.Sections.{first_opens, second_opens, no_section, one_section, section_stops}
use Rattle.crn_document.proofs.questions.next_section.Goals as goal

pub returns-then-at-ne2-clause-step : goal.returns-then-at-ne2-clause-step
returns-then-at-ne2-clause-step g c = no_section c.args.at.now.version c.args.at.now.line c.args.after_tree (map section_form (sections c.args.at.now.version (asked c.args.question))) c.args.at.now (g.S.Source.seen c.args.source.now) (second_opens c.args.at.now.version c.args.question c.if-at-ne2.true)

pub returns-then-section-eq0-clause-step : goal.returns-then-section-eq0-clause-step
returns-then-section-eq0-clause-step g c = no_section c.args.at.now.version c.args.at.now.line c.args.after_tree (map section_form (sections c.args.at.now.version (asked c.args.question))) c.args.at.now (g.S.Source.seen c.args.source.now) (first_opens c.args.at.now.version c.args.question (let n = c.section_before-section.ensures.none in n c.if-section-eq0.true))

pub returns-in_err-next_record-clause-step : goal.returns-in_err-next_record-clause-step
returns-in_err-next_record-clause-step g c =
    let at = c.args.at.now in
    let after = c.args.after_tree in
    let before = g.S.Source.seen c.args.source.now in
    let now = g.S.Source.seen c.next_record.new.source in
    let e = c.section_expect-expect.result in
    let stop = c.in_err-next_record.field-0.0 in
    let name : List ℕ = slice_index_or section_names (c.section_before-section.result - 1) [] in
    let some : 1 ≤ c.section_before-section.result = (let d = c.if-section-eq0.false in omega (arith, d)) in
    let names : opens (asked c.args.question) ≡ name ∷ [] = (let f = c.section_before-section.ensures.some in f some) in
    let all = section_stops 2 at.line after (section_form name) stop at before now (as_expected (λ d. StopIs d stop at before now) e 2 at.line after (section_form name ∷ []) c.section_expect-expect.ensures c.in_err-next_record.ensures.step) in
    step_exits _ _ c.from_residual.result stop _ _ _ _ (err_from_is_err_and c.from_residual.result c.from_residual.ensures.1)
    (subst (λ (v : ℕ). StopIs (asks_all v at.line after (map section_form (sections v (asked c.args.question)))) stop at before now) (sym c.if-at-ne2.false)
    (subst (λ (ns : List (List ℕ)). StopIs (asks_all 2 at.line after (map section_form ns)) stop at before now) (sym names) all))

pub returns-clause-step : goal.returns-clause-step
returns-clause-step g c =
    let at = c.args.at.now in
    let after = c.args.after_tree in
    let new = c.next_record.new.at in
    let before = g.S.Source.seen c.args.source.now in
    let now = g.S.Source.seen c.next_record.new.source in
    let e = c.section_expect-expect.result in
    let name : List ℕ = slice_index_or section_names (c.section_before-section.result - 1) [] in
    let some : 1 ≤ c.section_before-section.result = (let d = c.if-section-eq0.false in omega (arith, d)) in
    let names : opens (asked c.args.question) ≡ name ∷ [] = (let f = c.section_before-section.ensures.some in f some) in
    let s = c.in_ok-next_record.ensures.step in
    let one = as_expected (λ d. StepGives d s.0 at.line new.line at.lines new.lines before.left now.left) e 2 at.line after (section_form name ∷ []) c.section_expect-expect.ensures s.2 in
    let all = one_section (λ t x. Unit {0}) 2 at.line after (section_form name) s.0 at new before now c.in_ok-next_record.ensures.line one s.3 in
    subst (λ (v : ℕ). StepIs (asks_all v at.line after (map section_form (sections v (asked c.args.question)))) (λ (t : Bool) rs. IsOpened at new after t rs) (Ok false) at new before now) (sym c.if-at-ne2.false)
    (subst (λ (ns : List (List ℕ)). StepIs (asks_all 2 at.line after (map section_form ns)) (λ (t : Bool) rs. IsOpened at new after t rs) (Ok false) at new before now) (sym names) all)
