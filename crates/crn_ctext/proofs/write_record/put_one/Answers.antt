use Rattle.crn_ctext.proofs.Prelude.{err_from_is_err_and, WroteAll-then, WrotePrefix-then, WrotePrefix-more, Wrote-prefix}
use Rattle.crn_ctext.proofs.Pieces.{ends_with, wrote_as}
use Rattle.crn_ctext.proofs.WrittenLines.{one_number}
use Rattle.crn_ctext.proofs.write_record.put_one.Goals as goal

pub returns-in_err-put_all : goal.returns-in_err-put_all
returns-in_err-put_all g c =
    let p = err_from_is_err_and c.from_residual.result c.from_residual.ensures.1 in
    wrote_as (one_number c.args.text.now c.args.number.now) (Wrote-prefix p.1 (WrotePrefix-more _ (WrotePrefix-more _ c.in_err-put_all.ensures.writes.prefix)))

pub returns-in_err-put_int : goal.returns-in_err-put_int
returns-in_err-put_int g c =
    let p = err_from_is_err_and c.from_residual-in_err-put_int.result c.from_residual-in_err-put_int.ensures.1 in
    wrote_as (one_number c.args.text.now c.args.number.now) (Wrote-prefix p.1 (WrotePrefix-more _ (WrotePrefix-then c.in_ok-put_all.ensures.writes.all c.in_err-put_int.ensures.prefix)))

pub returns : goal.returns
returns g c = ends_with (one_number c.args.text.now c.args.number.now) (WroteAll-then c.in_ok-put_all.ensures.writes.all c.in_ok-put_int.ensures.all) c.put_all-2.ensures.writes
