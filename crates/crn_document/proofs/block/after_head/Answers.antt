use Rattle.crn_document.proofs.Prelude.{◌≡◌, ◌+◌, ◌-◌, ◌∙◌, List, [], refl, sym, subst, ap, arith, ℕ, ℤ, Verdict, HeadMayBe, AllHold, FailsFirst, head_tests, claims, ◌>>=◌, fails_before, asked, AreSmall, IsHead, IsAfter, after_at, head_course, rows_course, StepIs, step_then_is, tests_give, tests_fail}
use Rattle.crn_ctext.specs.Course as course
use Rattle.crn_document.proofs.Heads.{said_facts}
use Rattle.crn_document.proofs.Blocks.{claims_fail, claims_hold, head_course_by, said_verdict}
use Rattle.crn_document.proofs.block.after_head.Goals as goal

pub bare_verdict-requires-clause-small : goal.bare_verdict-requires-clause-small
bare_verdict-requires-clause-small g c =
    let f = said_facts c.args.net.now c.args.question c.args.checked.now.facts c.args.at.now.numbers.list c.requires.head.0 c.requires.built c.requires.ready.known c.requires.head.1 in
    subst AreSmall (sym (c.as_slice-2.ensures ∙ c.in_ok-head.ensures.list ∙ c.as_slice.ensures)) f.small

pub check_head-judged-requires-clause-needs : goal.check_head-judged-requires-clause-needs
check_head-judged-requires-clause-needs g c = c.requires.ready.known.needs

pub check_head-judged-requires-clause-head : goal.check_head-judged-requires-clause-head
check_head-judged-requires-clause-head g c =
    let f = said_facts c.args.net.now c.args.question c.args.checked.now.facts c.args.at.now.numbers.list c.requires.head.0 c.requires.built c.requires.ready.known c.requires.head.1 in
    let same = c.as_slice-2.ensures ∙ c.in_ok-head.ensures.list ∙ c.as_slice.ensures in
    subst (λ (v : Verdict). HeadMayBe c.args.net.now c.args.checked.now.facts.earlier (asked c.args.question) v) (sym (c.in_ok-verdict.ensures ∙ ap (λ (zs : List ℤ). said_verdict c.args.question zs []) same)) f.may

pub returns-in-Ok-clause-step : goal.returns-in-Ok-clause-step
returns-in-Ok-clause-step g c = λ h n blocks said next.
    let table = c.args.table.now in
    let at = c.args.at.now in
    let new = c.read_rows.new.at in
    let net = c.args.net.now in
    let earlier = c.args.checked.now.facts.earlier in
    let q = c.args.question in
    let numbers = at.numbers.list in
    let before = g.S.Source.seen c.args.source.now in
    let now = g.S.Source.seen c.read_rows.new.source in
    let same : c.as_slice-2.result.now ≡ numbers = c.as_slice-2.ensures ∙ c.in_ok-head.ensures.list ∙ c.as_slice.ensures in
    let last : c.as_slice-in-Ok.result.now ≡ numbers = c.as_slice-in-Ok.ensures ∙ c.in_ok-head.ensures.list ∙ c.as_slice.ensures in
    let verdict : c.in_ok-verdict.verdict ≡ said_verdict q numbers [] = c.in_ok-verdict.ensures ∙ ap (λ (zs : List ℤ). said_verdict q zs []) same in
    let holds : AllHold (head_tests net earlier (asked q) (said_verdict q numbers [])) = subst (λ (v : Verdict). AllHold (head_tests net earlier (asked q) v)) verdict c.in-Ok.ensures in
    let rest = let r = c.read_rows.ensures.step in r h n blocks (subst (λ (zs : List ℤ). IsHead net earlier q zs h) (sym last) said) next in
    head_course_by (λ d. StepIs d (λ (t : Unit {0}) y. IsAfter net c.read_rows.new.checked.facts.earlier c.read_rows.new.checked.by_tree new.line y) c.read_rows.result at new before now) at.version table net c.args.checked.now.facts q n numbers h blocks c.requires.built c.requires.ready.known said
    (step_then_is (claims n (head_tests net earlier (asked q) (said_verdict q numbers []))) (λ x. rows_course at.version table (asked q) (after_at net earlier n blocks) h) tt (λ (t : Unit {0}) y. IsAfter net c.read_rows.new.checked.facts.earlier c.read_rows.new.checked.by_tree new.line y) c.read_rows.result at at new before before now
    (tests_give (claims n (head_tests net earlier (asked q) (said_verdict q numbers []))) tt at.line at.lines before.left (λ place. claims_hold n (head_tests net earlier (asked q) (said_verdict q numbers [])) place holds)) refl rest)

pub returns-clause-step : goal.returns-clause-step
returns-clause-step g c = λ h n blocks said next.
    let table = c.args.table.now in
    let at = c.args.at.now in
    let net = c.args.net.now in
    let earlier = c.args.checked.now.facts.earlier in
    let q = c.args.question in
    let numbers = at.numbers.list in
    let before = g.S.Source.seen c.args.source.now in
    let part = c.in-Err.fault.part in
    let code = c.in-Err.fault.code in
    let same : c.as_slice-2.result.now ≡ numbers = c.as_slice-2.ensures ∙ c.in_ok-head.ensures.list ∙ c.as_slice.ensures in
    let verdict : c.in_ok-verdict.verdict ≡ said_verdict q numbers [] = c.in_ok-verdict.ensures ∙ ap (λ (zs : List ℤ). said_verdict q zs []) same in
    let fails : FailsFirst (head_tests net earlier (asked q) (said_verdict q numbers [])) part code = subst (λ (v : Verdict). FailsFirst (head_tests net earlier (asked q) v) part code) verdict c.in-Err.ensures in
    let line : n + part ≡ at.line - 1 + part = omega (arith, next) in (
      tests_fail (head_course at.version table (asked q) (after_at net earlier n blocks) h) at.line (at.line - 1 + part) code at before.left c.requires.goes.reads
          (λ place. head_course_by (λ d. course.FailsFirst d place (at.line - 1 + part) code) at.version table net c.args.checked.now.facts q n numbers h blocks c.requires.built c.requires.ready.known said
          (subst (λ (k : ℕ). course.FailsFirst (claims n (head_tests net earlier (asked q) (said_verdict q numbers [])) >>= (λ x. rows_course at.version table (asked q) (after_at net earlier n blocks) h)) place k code) line
          (fails_before (claims n (head_tests net earlier (asked q) (said_verdict q numbers []))) (λ x. rows_course at.version table (asked q) (after_at net earlier n blocks) h) place (n + part) code (claims_fail n (head_tests net earlier (asked q) (said_verdict q numbers [])) part code place fails)))),
      refl,
    )
