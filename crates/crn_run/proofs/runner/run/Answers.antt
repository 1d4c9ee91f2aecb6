use Rattle.crn_run.proofs.Prelude.{refl}
use Rattle.crn_run.proofs.Runs.{sample_ends, usage_ends}
use Rattle.crn_run.proofs.Complete.{run_complete}
use Rattle.crn_run.proofs.WordsSaid.{certify_is_no_sample, check_is_no_sample, prove_is_no_sample, report_is_no_sample, verify_is_no_sample}
use Rattle.crn_run.proofs.runner.run.Goals as goal

pub returns-in-Ok-Some-Report-clause-complete : goal.returns-in-Ok-Some-Report-clause-complete
returns-in-Ok-Some-Report-clause-complete g c =
    let said = rw (c.in-Ok-Some-Report.field-0-is, c.in-Ok-Some-Report.field-0-0-is) at c.in-Ok-Some-Report.ensures in
    run_complete c.report.result _ _ _ (c.report.ensures _ said)

pub returns-in-Ok-Some-Certify-clause-complete : goal.returns-in-Ok-Some-Certify-clause-complete
returns-in-Ok-Some-Certify-clause-complete g c =
    let said = rw (c.in-Ok-Some-Certify.field-0-is, c.in-Ok-Some-Certify.field-0-0-is) at c.in-Ok-Some-Certify.ensures in
    run_complete c.certify.result _ _ _ (c.certify.ensures _ said)

pub returns-in-Ok-Some-Check-clause-complete : goal.returns-in-Ok-Some-Check-clause-complete
returns-in-Ok-Some-Check-clause-complete g c =
    let said = rw (c.in-Ok-Some-Check.field-0-is, c.in-Ok-Some-Check.field-0-0-is) at c.in-Ok-Some-Check.ensures in
    run_complete c.check.result _ _ _ (c.check.ensures _ said)

pub returns-in-Ok-None-clause-gives : goal.returns-in-Ok-None-clause-gives
returns-in-Ok-None-clause-gives g c =
    let none = rw c.in-Ok-None.field-0-is at c.in-Ok-None.ensures in
    usage_ends c.usage.result _ _ _ (λ p. none p.0 p.1) refl c.usage.ensures

pub returns-in-Ok-None-clause-complete : goal.returns-in-Ok-None-clause-complete
returns-in-Ok-None-clause-complete g c =
    let none = rw c.in-Ok-None.field-0-is at c.in-Ok-None.ensures in
    run_complete c.usage.result _ _ _ (usage_ends c.usage.result _ _ _ (λ p. none p.0 p.1) refl c.usage.ensures)

-- the words of another command are not those of `sample`
pub returns-in-Ok-Some-Report-clause-untouched : goal.returns-in-Ok-Some-Report-clause-untouched
returns-in-Ok-Some-Report-clause-untouched g c = λ number budget is.
    let said = rw (c.in-Ok-Some-Report.field-0-is, c.in-Ok-Some-Report.field-0-0-is) at c.in-Ok-Some-Report.ensures in
    absurd (report_is_no_sample _ _ number budget said is)

pub returns-in-Ok-Some-Certify-clause-untouched : goal.returns-in-Ok-Some-Certify-clause-untouched
returns-in-Ok-Some-Certify-clause-untouched g c = λ number budget is.
    let said = rw (c.in-Ok-Some-Certify.field-0-is, c.in-Ok-Some-Certify.field-0-0-is) at c.in-Ok-Some-Certify.ensures in
    absurd (certify_is_no_sample _ _ number budget said is)

pub returns-in-Ok-Some-Check-clause-untouched : goal.returns-in-Ok-Some-Check-clause-untouched
returns-in-Ok-Some-Check-clause-untouched g c = λ number budget is.
    let said = rw (c.in-Ok-Some-Check.field-0-is, c.in-Ok-Some-Check.field-0-0-is) at c.in-Ok-Some-Check.ensures in
    absurd (check_is_no_sample _ number budget said is)

pub returns-in-Ok-Some-Sample-clause-gives : goal.returns-in-Ok-Some-Sample-clause-gives
returns-in-Ok-Some-Sample-clause-gives g c =
    let said = rw (c.in-Ok-Some-Sample.field-0-is, c.in-Ok-Some-Sample.field-0-0-is) at c.in-Ok-Some-Sample.ensures in
    sample_ends _ _ c.summarize_sample.result _ _ _ said refl c.summarize_sample.ensures

pub returns-in-Ok-Some-Sample-clause-complete : goal.returns-in-Ok-Some-Sample-clause-complete
returns-in-Ok-Some-Sample-clause-complete g c =
    let said = rw (c.in-Ok-Some-Sample.field-0-is, c.in-Ok-Some-Sample.field-0-0-is) at c.in-Ok-Some-Sample.ensures in
    run_complete c.summarize_sample.result _ _ _ (sample_ends _ _ c.summarize_sample.result _ _ _ said refl c.summarize_sample.ensures)

pub returns-in-Ok-Some-Prove-clause-complete : goal.returns-in-Ok-Some-Prove-clause-complete
returns-in-Ok-Some-Prove-clause-complete g c =
    let said = rw (c.in-Ok-Some-Prove.field-0-is, c.in-Ok-Some-Prove.field-0-0-is) at c.in-Ok-Some-Prove.ensures in
    run_complete c.prove.result _ _ _ (c.prove.ensures _ said)

pub returns-in-Ok-Some-Prove-clause-untouched : goal.returns-in-Ok-Some-Prove-clause-untouched
returns-in-Ok-Some-Prove-clause-untouched g c = λ number budget is.
    let said = rw (c.in-Ok-Some-Prove.field-0-is, c.in-Ok-Some-Prove.field-0-0-is) at c.in-Ok-Some-Prove.ensures in
    absurd (prove_is_no_sample _ _ _ number budget said is)

pub returns-in-Ok-Some-Verify-clause-complete : goal.returns-in-Ok-Some-Verify-clause-complete
returns-in-Ok-Some-Verify-clause-complete g c =
    let said = rw (c.in-Ok-Some-Verify.field-0-is, c.in-Ok-Some-Verify.field-0-0-is) at c.in-Ok-Some-Verify.ensures in
    run_complete c.verify.result _ _ _ (c.verify.ensures _ said)

pub returns-in-Ok-Some-Verify-clause-untouched : goal.returns-in-Ok-Some-Verify-clause-untouched
returns-in-Ok-Some-Verify-clause-untouched g c = λ number budget is.
    let said = rw (c.in-Ok-Some-Verify.field-0-is, c.in-Ok-Some-Verify.field-0-0-is) at c.in-Ok-Some-Verify.ensures in
    absurd (verify_is_no_sample _ _ number budget said is)
