use Rattle.crn_ctext.proofs.Prelude.{err_from_is_err_and, refl, Wrote-prefix, WrotePrefix-more}
use Rattle.crn_ctext.proofs.Pieces.{Gathered-add, Gathered-then, Gathered-stops, Gathered-ends}
use Rattle.crn_ctext.proofs.write_record.put_free.Goals as goal

pub returns-in_err-begin : goal.returns-in_err-begin
returns-in_err-begin g c =
    let p = err_from_is_err_and c.from_residual.result c.from_residual.ensures.1 in
    Wrote-prefix p.1 (WrotePrefix-more _ (WrotePrefix-more _ c.in_err-begin.ensures.gathers.prefix))

pub returns-in_err-gather_ints : goal.returns-in_err-gather_ints
returns-in_err-gather_ints g c =
    let p = err_from_is_err_and c.from_residual-in_err-gather_ints.result c.from_residual-in_err-gather_ints.ensures.1 in
    Wrote-prefix p.1 (Gathered-stops _ (Gathered-add _ refl refl c.in_ok-begin.ensures.gathers.all) c.in_err-gather_ints.ensures.gathers.prefix)

pub returns : goal.returns
returns g c = Gathered-ends _ refl refl (Gathered-then (Gathered-add _ refl refl c.in_ok-begin.ensures.gathers.all) c.in_ok-gather_ints.ensures.gathers.all) c.end_line.ensures
