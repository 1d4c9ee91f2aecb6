use Rattle.crn_ctext.proofs.Prelude.{err_from_is_err_and, WrotePrefix-more, Wrote-prefix, Wrote-then}
use Rattle.crn_ctext.proofs.write_record.put_first.Goals as goal

pub returns-in_err-put_num : goal.returns-in_err-put_num
returns-in_err-put_num g c =
    let p = err_from_is_err_and c.from_residual.result c.from_residual.ensures.1 in
    Wrote-prefix p.1 (WrotePrefix-more _ c.in_err-put_num.ensures.prefix)

pub returns : goal.returns
returns g c = Wrote-then c.in_ok-put_num.ensures.all c.put_nums.ensures
