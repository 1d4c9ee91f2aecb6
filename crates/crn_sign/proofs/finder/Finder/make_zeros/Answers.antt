use Rattle.crn_sign.proofs.Prelude.{err_from_is_err_and, kinds_of}
use Rattle.crn_sign.proofs.finder.Finder.make_zeros.Goals as goal

pub returns-in_err-make_misfits_zero-clause-answer : goal.returns-in_err-make_misfits_zero-clause-answer
returns-in_err-make_misfits_zero-clause-answer c =
    let p = err_from_is_err_and c.from_residual.result c.from_residual.ensures.1 in
    rw (p.1, p.2) (c.in_err-make_misfits_zero.ensures.stop (kinds_of c.args.matrix.now c.args.weak.now c.args.asked.now))
