use Rattle.crn_document.proofs.Prelude.{ℕ, ◌≡◌, ◌≤◌, ◌-◌, ◌∙◌, List, length, map, ap, refl, sym, subst, arith, AllByRecursion, err_from_is_err_and, length-map, Form, AfterBlocks, asks_all, Known, StepGives, Q2, on, terminal_of, exits, linkage, strong, MAX_COMPLEXES, asked, Row, IsAfter, after_at, end_course, forms_below, parts_after, parts_below, MayBeRow, row_form, StepIs, StopIs, step_exits, step_then_is, stop_first, stops_here}
use Rattle.std.specs.Prelude.{false}
use Rattle.crn_document.proofs.Linkages.{terminal_few}
use Rattle.crn_reading.specs.declared.fault.CheckStop.TheVariants as stop
use Rattle.crn_document.proofs.Heads.{said_facts}
use Rattle.crn_document.proofs.Ranks.{AreRanks}
use Rattle.crn_document.proofs.Blocks.{forms_are, rows_block, rows_counted, rows_course_by, rows_may}
use Rattle.crn_document.proofs.block.read_rows.Goals as goal

pub class_count-classes-requires : goal.class_count-classes-requires
class_count-classes-requires g c = let f = said_facts c.args.net.now c.args.question c.args.checked.now.facts c.args.head.now c.requires.head.0 c.requires.built c.requires.ready.known c.requires.head.1 in f.small

pub parts_of-requires-clause-small : goal.parts_of-requires-clause-small
parts_of-requires-clause-small g c = let f = said_facts c.args.net.now c.args.question c.args.checked.now.facts c.args.head.now c.requires.head.0 c.requires.built c.requires.ready.known c.requires.head.1 in f.small

pub parts_of-requires-clause-short : goal.parts_of-requires-clause-short
parts_of-requires-clause-short g c = let f = said_facts c.args.net.now c.args.question c.args.checked.now.facts c.args.head.now c.requires.head.0 c.requires.built c.requires.ready.known c.requires.head.1 in f.short

pub number_of-place-requires : goal.number_of-place-requires
number_of-place-requires g c = let f = said_facts c.args.net.now c.args.question c.args.checked.now.facts c.args.head.now c.requires.head.0 c.requires.built c.requires.ready.known c.requires.head.1 in f.small

pub next_rows-requires-clause-few : goal.next_rows-requires-clause-few
next_rows-requires-clause-few g c = let f = said_facts c.args.net.now c.args.question c.args.checked.now.facts c.args.head.now c.requires.head.0 c.requires.built c.requires.ready.known c.requires.head.1 in let few = f.few in omega (arith, c.class_count-classes.ensures, few)

pub next_rows-requires-clause-may : goal.next_rows-requires-clause-may
next_rows-requires-clause-may g c =
    let f = said_facts c.args.net.now c.args.question c.args.checked.now.facts c.args.head.now c.requires.head.0 c.requires.built c.requires.ready.known c.requires.head.1 in
    let l = c.linkage_of-linkage.ensures in
    let labels = l.labels_are in
    let long : length (linkage c.args.checked.now.facts.earlier) ≤ MAX_COMPLEXES = (let e = ap (λ (x : List ℕ). length x) labels in let m = l.long in omega (arith, e, m)) in
    let parts : c.deref.result.now ≡ parts_after c.args.net.now c.args.checked.now.facts.earlier c.args.question c.args.head.now = c.deref.ensures.value ∙ c.in_ok-parts.ensures ∙ ap (λ (ls : List ℕ). parts_below c.args.net.now ls c.args.question c.args.head.now) labels in
    subst (λ (due : List Row). AllByRecursion MayBeRow due) (sym (c.deref-2.ensures.value ∙ c.in_ok-due.ensures)) (rows_may c.args.net.now (strong c.args.checked.now.facts.earlier) (exits c.args.checked.now.facts.earlier) (terminal_of (on c.args.checked.now.facts.earlier Q2)) c.linkage_of-linkage.result.count c.args.question c.number_of-place.result c.deref.result.now (terminal_few c.args.net.now c.args.question c.args.checked.now.facts c.requires.ready.known) (let l = c.linkage_of-linkage.ensures in l.few) (subst AreRanks (sym parts) (let r = f.ranks in r long)))

pub end_block-requires-clause-read : goal.end_block-requires-clause-read
end_block-requires-clause-read g c =
    let net = c.args.net.now in
    let earlier = c.args.checked.now.facts.earlier in
    let l = c.linkage_of-linkage.ensures in
    let s = c.in_ok-next_rows.ensures.step in
    let form = row_form net c.linkage_of-linkage.result.labels.now c.class_count-classes.result in
    let forms = map form c.deref-2.result.now in
    let same = forms_are net earlier c.args.question c.args.head.now c.linkage_of-linkage.result.labels.now c.linkage_of-linkage.result.count c.class_count-classes.result c.number_of-place.result c.deref.result.now c.deref-2.result.now l.labels_are l.count_is c.class_count-classes.ensures c.number_of-place.ensures (c.deref.ensures.value ∙ c.in_ok-parts.ensures) (c.deref-2.ensures.value ∙ c.in_ok-due.ensures) in
    let counted = rows_counted forms c.next_rows.new.into c.in_ok-rows.rows s.0 c.in_ok-rows.ensures s.1 in
    let long = length-map c.deref-2.result.now form in
    record {
      built = c.requires.built;
      ready = c.requires.ready;
      ends = omega (arith, counted, long, c.in_ok-next_rows.ensures.line, c.requires.some);
      holds = c.requires.heads;
      parts_are = c.deref-3.ensures.value ∙ c.in_ok-parts.ensures ∙ ap (λ (ls : List ℕ). parts_below net ls c.args.question c.args.head.now) l.labels_are;
      some = (c.requires.head.0, s.0, rows_block net earlier _ forms c.in_ok-rows.rows c.requires.head.0 s.0 same c.in_ok-rows.ensures c.requires.head.1 s.1);
    }

pub returns-in_err-parts-clause-step : goal.returns-in_err-parts-clause-step
returns-in_err-parts-clause-step g c = λ h n blocks said next.
    step_exits _ _ c.from_residual.result stop.NoMemory _ _ _ _ (err_from_is_err_and c.from_residual.result c.from_residual.ensures.1) (stops_here c.args.at.now _ c.requires.goes.reads, refl)

pub returns-in_err-due-clause-step : goal.returns-in_err-due-clause-step
returns-in_err-due-clause-step g c = λ h n blocks said next.
    step_exits _ _ _ stop.NoMemory _ _ _ _ (err_from_is_err_and _ c.from_residual-in_err-due.ensures.1) (stops_here c.args.at.now _ c.requires.goes.reads, refl)

pub returns-in_err-members-clause-step : goal.returns-in_err-members-clause-step
returns-in_err-members-clause-step g c = λ h n blocks said next.
    let table = c.args.table.now in
    step_exits _ _ _ stop.NoMemory _ _ _ _ (err_from_is_err_and _ c.from_residual-in_err-members.ensures.1) (stops_here c.args.at.now _ c.requires.goes.reads, refl)

pub returns-in_err-next_rows-clause-step : goal.returns-in_err-next_rows-clause-step
returns-in_err-next_rows-clause-step g c = λ h n blocks said next.
    let table = c.args.table.now in
    let at = c.args.at.now in
    let earlier = c.args.checked.now.facts.earlier in
    let e = c.in_err-next_rows.field-0.0 in
    let same = forms_are c.args.net.now earlier c.args.question c.args.head.now c.linkage_of-linkage.result.labels.now c.linkage_of-linkage.result.count c.class_count-classes.result c.number_of-place.result c.deref.result.now c.deref-2.result.now (let l = c.linkage_of-linkage.ensures in l.labels_are) (let l = c.linkage_of-linkage.ensures in l.count_is) c.class_count-classes.ensures c.number_of-place.ensures (c.deref.ensures.value ∙ c.in_ok-parts.ensures) (c.deref-2.ensures.value ∙ c.in_ok-due.ensures) in
    step_exits _ _ _ e _ _ _ _ (err_from_is_err_and _ c.from_residual-in_err-next_rows.ensures.1)
    (rows_course_by (λ d. StopIs d e at (g.S.Source.seen c.args.source.now) (g.S.Source.seen c.next_rows.new.source)) at.version table c.args.net.now c.args.checked.now.facts c.args.question n at.line c.args.head.now h blocks c.requires.built c.requires.ready.known said next
    (stop_first (asks_all at.version at.line false (forms_below c.args.net.now earlier c.args.question c.args.head.now)) (λ rows. end_course at.version table (asked c.args.question) (after_at c.args.net.now earlier n blocks) h rows) e at _ _
    (subst (λ (fs : List Form). StopIs (asks_all at.version at.line false fs) e at (g.S.Source.seen c.args.source.now) (g.S.Source.seen c.next_rows.new.source)) same c.in_err-next_rows.ensures.step)))

pub returns-clause-step : goal.returns-clause-step
returns-clause-step g c = λ h n blocks said next.
    let table = c.args.table.now in
    let at = c.args.at.now in
    let mid = c.next_rows.new.at in
    let last = c.end_block.new.at in
    let net = c.args.net.now in
    let earlier = c.args.checked.now.facts.earlier in
    let q = asked c.args.question in
    let before = g.S.Source.seen c.args.source.now in
    let between = g.S.Source.seen c.next_rows.new.source in
    let now = g.S.Source.seen c.end_block.new.source in
    let s = c.in_ok-next_rows.ensures.step in
    let forms = map (row_form net c.linkage_of-linkage.result.labels.now c.class_count-classes.result) c.deref-2.result.now in
    let same = forms_are net earlier c.args.question c.args.head.now c.linkage_of-linkage.result.labels.now c.linkage_of-linkage.result.count c.class_count-classes.result c.number_of-place.result c.deref.result.now c.deref-2.result.now (let l = c.linkage_of-linkage.ensures in l.labels_are) (let l = c.linkage_of-linkage.ensures in l.count_is) c.class_count-classes.ensures c.number_of-place.ensures (c.deref.ensures.value ∙ c.in_ok-parts.ensures) (c.deref-2.ensures.value ∙ c.in_ok-due.ensures) in
    let line : at.line - 1 ≡ n = omega (arith, next) in
    let Says : Unit {0} → AfterBlocks Known → Type 0 = λ t y. IsAfter net c.end_block.new.checked.facts.earlier c.end_block.new.checked.by_tree last.line y in
    let rest : StepIs (end_course mid.version table q (after_at net earlier (at.line - 1) blocks) h s.0) Says c.end_block.result mid last between now = let e = c.end_block.ensures.step in e h s.0 blocks (rows_block net earlier _ forms c.in_ok-rows.rows h s.0 same c.in_ok-rows.ensures said s.1) in
    rows_course_by (λ d. StepIs d Says c.end_block.result at last before now) at.version table net c.args.checked.now.facts c.args.question n at.line c.args.head.now h blocks c.requires.built c.requires.ready.known said next
    (step_then_is (asks_all at.version at.line false (forms_below net earlier c.args.question c.args.head.now)) (λ rows. end_course at.version table q (after_at net earlier n blocks) h rows) s.0 Says c.end_block.result at mid last before between now
    (subst (λ (fs : List Form). StepGives (asks_all at.version at.line false fs) s.0 at.line mid.line at.lines mid.lines before.left between.left) same s.2) s.3
    (subst (λ (v : ℕ). StepIs (end_course v table q (after_at net earlier n blocks) h s.0) Says c.end_block.result mid last between now) c.next_rows.ensures.version
    (subst (λ (k : ℕ). StepIs (end_course mid.version table q (after_at net earlier k blocks) h s.0) Says c.end_block.result mid last between now) line rest)))
