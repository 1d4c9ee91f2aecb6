use Rattle.crn_document.proofs.Prelude.{◌++◌, List, ap, subst, sym, ℕ, ◌∙◌, ◌≤◌, length, ℤ, AllByRecursion, MAX_COMPLEXES, MAX_REACTIONS, Record, Form, IsOneOf, asks_for, IsSaid, FitsCounts, IsHead, head_forms, StepIs, step_says}
use Rattle.crn_document.proofs.Records.{as_expected}
use Rattle.crn_document.proofs.head.next_head.Goals as goal

pub head_expect-expect-requires-clause-few : goal.head_expect-expect-requires-clause-few
head_expect-expect-requires-clause-few g c = subst (λ (x : List ℕ). length x ≤ MAX_COMPLEXES) (sym c.as_slice-classes.ensures) (let f = c.in_ok-counts.ensures in f.few)

pub head_expect-expect-requires-clause-each : goal.head_expect-expect-requires-clause-each
head_expect-expect-requires-clause-each g c = subst (λ (x : List ℕ). AllByRecursion (λ r. r ≤ MAX_REACTIONS) x) (sym c.as_slice-classes.ensures) (let f = c.in_ok-counts.ensures in f.each)

pub next_record-requires-clause-due : goal.next_record-requires-clause-due
next_record-requires-clause-due g c =
    let fits = subst (FitsCounts c.args.net.now c.args.facts.now.earlier c.args.question) (sym c.as_slice-classes.ensures) c.in_ok-counts.ensures in
    let due = (let d = c.head_expect-expect.ensures.due in d c.args.facts.now.earlier fits c.in_ok-signals.ensures) in due.may

pub returns-clause-step : goal.returns-clause-step
returns-clause-step g c =
    let net = c.args.net.now in
    let earlier = c.args.facts.now.earlier in
    let q = c.args.question in
    let e = c.head_expect-expect.result in
    let numbers = c.next_record.new.at.numbers.list in
    let fits = subst (FitsCounts net earlier q) (sym c.as_slice-classes.ensures) c.in_ok-counts.ensures in
    let due = (let d = c.head_expect-expect.ensures.due in d earlier fits c.in_ok-signals.ensures) in
    let says : (t : Unit {0}) (h : Record) → IsSaid e numbers h → IsHead net earlier q numbers h
    = λ t h s. record { form = subst (λ (fs : List Form). IsOneOf fs h) due.has s.form; tag = s.numbers ∙ ap (λ (zs : List ℤ). zs ++ h.numbers) (let t = c.head_expect-expect.ensures.tag in t earlier h fits c.in_ok-signals.ensures) } in
    as_expected (λ d. StepIs d (λ t h. IsHead net earlier q numbers h) c.next_record.result c.args.at.now c.next_record.new.at (g.S.Source.seen c.args.source.now) (g.S.Source.seen c.next_record.new.source)) e c.args.at.now.version c.args.at.now.line c.args.after_tree (head_forms net earlier q) due
    (step_says (asks_for e c.args.at.now.line) (λ t h. IsSaid e numbers h) (λ t h. IsHead net earlier q numbers h) c.next_record.result c.args.at.now c.next_record.new.at _ _ says c.next_record.ensures.step)
