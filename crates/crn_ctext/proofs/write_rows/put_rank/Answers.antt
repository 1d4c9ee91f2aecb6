use Rattle.crn_ctext.proofs.Prelude.{err_from_is_err_and, WroteAll-then, WrotePrefix-then, WrotePrefix-more, Wrote-prefix}
use Rattle.crn_ctext.proofs.Pieces.{ends_with, wrote_as}
use Rattle.crn_ctext.proofs.WrittenLines.{rank_lines}
use Rattle.crn_ctext.proofs.write_rows.put_rank.Goals as goal

pub returns-in_err-put_small : goal.returns-in_err-put_small
returns-in_err-put_small g c =
    let p = err_from_is_err_and c.from_residual.result c.from_residual.ensures.1 in
    let first = rw c.as_slice.ensures at c.in_err-put_small.ensures in
    wrote_as (rank_lines c.args.proof.now) (Wrote-prefix p.1 (WrotePrefix-more _ (WrotePrefix-more _ first.prefix)))

pub returns-in_err-put_rows : goal.returns-in_err-put_rows
returns-in_err-put_rows g c =
    let p = err_from_is_err_and c.from_residual-in_err-put_rows.result c.from_residual-in_err-put_rows.ensures.1 in
    let first = rw c.as_slice.ensures at c.in_ok-put_small.ensures in
    wrote_as (rank_lines c.args.proof.now) (Wrote-prefix p.1 (WrotePrefix-more _ (WrotePrefix-then first.all c.in_err-put_rows.ensures.prefix)))

pub returns : goal.returns
returns g c =
    let first = rw c.as_slice.ensures at c.in_ok-put_small.ensures in
    ends_with (rank_lines c.args.proof.now) (WroteAll-then first.all c.in_ok-put_rows.ensures.all) c.put_rows-2.ensures
