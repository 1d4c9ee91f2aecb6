use Rattle.crn_ctext.proofs.Prelude.{err_from_is_err_and, sym, ◌∙◌, Wrote-prefix}
use Rattle.std.proofs.Common.{append-nil}
use Rattle.crn_ctext.proofs.Pieces.{Gathered-ends}
use Rattle.crn_ctext.proofs.write_record.put_ints.Goals as goal

pub returns-in_err-gather_ints : goal.returns-in_err-gather_ints
returns-in_err-gather_ints g c =
    let p = err_from_is_err_and c.from_residual.result c.from_residual.ensures.1 in
    let gathers = rw c.new-piece.ensures at c.in_err-gather_ints.ensures.gathers in
    Wrote-prefix p.1 gathers.prefix

pub returns : goal.returns
returns g c =
    let gathers = rw c.new-piece.ensures at c.in_ok-gather_ints.ensures.gathers in
    Gathered-ends _ (sym (append-nil _)) (c.as_slice.ensures.value ∙ sym (append-nil _)) gathers.all c.put_all.ensures.writes
