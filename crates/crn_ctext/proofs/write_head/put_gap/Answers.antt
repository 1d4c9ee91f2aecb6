use Rattle.crn_ctext.proofs.Prelude.{err_from_is_err_and}
use Rattle.crn_ctext.proofs.Pieces.{stops_first, ends_with}
use Rattle.crn_ctext.proofs.WrittenLines.{wide_numbers}
use Rattle.crn_ctext.proofs.write_head.put_gap.Goals as goal

pub returns-in_err-put_nums-in-Wide : goal.returns-in_err-put_nums-in-Wide
returns-in_err-put_nums-in-Wide g c =
    let p = err_from_is_err_and c.from_residual.result c.from_residual.ensures.1 in
    rw c.in-Wide.is (stops_first _ (wide_numbers c.in-Wide.system c.in-Wide.class c.in-Wide.index c.in-Wide.basis.list) p.1 c.in_err-put_nums-in-Wide.ensures.prefix)

pub returns-in_ok-put_nums-in-Wide : goal.returns-in_ok-put_nums-in-Wide
returns-in_ok-put_nums-in-Wide g c =
    let last = rw c.as_slice.ensures at c.put_first.ensures in
    rw c.in-Wide.is (ends_with (wide_numbers c.in-Wide.system c.in-Wide.class c.in-Wide.index c.in-Wide.basis.list) c.in_ok-put_nums-in-Wide.ensures.all last)
