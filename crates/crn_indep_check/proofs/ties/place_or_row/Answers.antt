use Rattle.crn_indep_check.proofs.Prelude.{arith}
use Rattle.crn_indep_check.proofs.Rows.{missing, row_at_place, rows_before}
use Rattle.crn_indep_check.proofs.ties.place_or_row.Goals as goal

pub overflow_sub-result-in-Err : goal.overflow_sub-result-in-Err
overflow_sub-result-in-Err c =
    let net = c.args.net.now in
    let proof = c.args.proof.now in
    let m = missing net proof c.args.r c.in-Err.below c.as_slice.result.now c.requires.form c.as_slice.ensures c.in-Err.ensures.position in
    omega (arith, rows_before net proof c.args.r c.in-Err.below c.requires.form c.requires.inside.0 m)

pub returns-in-Err : goal.returns-in-Err
returns-in-Err c =
    let net = c.args.net.now in
    let proof = c.args.proof.now in
    let m = missing net proof c.args.r c.in-Err.below c.as_slice.result.now c.requires.form c.as_slice.ensures c.in-Err.ensures.position in
    row_at_place net proof c.args.r c.in-Err.below c.requires.form c.requires.inside.0 c.requires.inside.1 m
