use Rattle.crn_run.proofs.Prelude.{[], List, subst, sym, Verdict, built, AreFormedVerdicts, AllTrueOrLicensed, AreOpenIfSpent, PreferTheVector}
use Rattle.crn_run.proofs.Outputs.{answers_formed, report_broken, report_gives}
use Rattle.crn_run.proofs.output.report.Goals as goal

pub write_report-requires : goal.write_report-requires
write_report-requires g c =
    let net = c.args.net.now in
    let a = c.in-Ok.ensures.answers in
    subst (λ (vs : List Verdict). AreFormedVerdicts net [] built vs) (sym a.1) (answers_formed net [] built a.0 a.2)

pub returns-in-Ok-write_report : goal.returns-in-Ok-write_report
returns-in-Ok-write_report g c = λ text spells.
    let a = c.in-Ok.ensures.answers in
    let answered = subst (λ (vs : List Verdict). AllTrueOrLicensed c.args.net.now c.args.budget [] built vs) a.1 c.in-Ok.ensures.answered in
    let spent = subst (AreOpenIfSpent c.args.net.now c.args.budget) a.1 c.in-Ok.ensures.spent in
    let first = subst (PreferTheVector c.args.net.now) a.1 c.in-Ok.ensures.first in
    report_gives c.args.budget c.status_of_verdicts-whole.result text c.args.net.now a.0 c.in-Ok.verdicts _ _ a.1
    (record { spells = spells; formed = a.2; answered = answered; spent = spent; first = first }) a.3 (c.status_of_verdicts-whole.ensures a.0 a.1) c.in-Ok-write_report.ensures.all

pub returns : goal.returns
returns g c = λ text spells.
    let a = c.in-Ok.ensures.answers in
    let answered = subst (λ (vs : List Verdict). AllTrueOrLicensed c.args.net.now c.args.budget [] built vs) a.1 c.in-Ok.ensures.answered in
    let spent = subst (AreOpenIfSpent c.args.net.now c.args.budget) a.1 c.in-Ok.ensures.spent in
    let first = subst (PreferTheVector c.args.net.now) a.1 c.in-Ok.ensures.first in
    report_broken c.args.budget c.status_of_verdicts-whole.result text c.args.net.now a.0 c.in-Ok.verdicts _ _ a.1
    (record { spells = spells; formed = a.2; answered = answered; spent = spent; first = first }) a.3 (c.status_of_verdicts-whole.ensures a.0 a.1) c.in-Err-write_report.ensures.prefix
