use Rattle.crn_ctext.proofs.Prelude.{◌∙◌, arith, take_all, ap, List, err_from_is_err_and, WroteAll-step, Wrote-all, Record, record_lines}
use Rattle.crn_ctext.proofs.Pieces.{stops_later}
use Rattle.crn_ctext.proofs.WrittenLines.{sides_step, sides_whole, lines_append, lines_append3, sides_of_none}
use Rattle.crn_ctext.proofs.write_rows.put_sides.Goals as goal

pub loop-i-init : goal.loop-i-init
loop-i-init g c = sides_of_none c.args.pairs.now _

pub loop-i-preserved : goal.loop-i-preserved
loop-i-preserved g c =
    let wrote = rw c.row.ensures at c.in_ok-put_side.ensures in
    WroteAll-step (ap (λ (t : List Record). record_lines t) (sides_step c.args.pairs.now c.args.rows.now c.loop-i.i (omega arith)) ∙ lines_append _ _) c.loop-i.invariant wrote.all

pub returns-in_err-put_side : goal.returns-in_err-put_side
returns-in_err-put_side g c =
    let p = err_from_is_err_and c.from_residual.result c.from_residual.ensures.1 in
    let wrote = rw c.row.ensures at c.in_err-put_side.ensures in
    let f = sides_whole c.args.pairs.now c.args.rows.now c.loop-i.i (omega arith) in
    stops_later _ (ap (λ (t : List Record). record_lines t) f.1 ∙ lines_append3 _ _ f.0) p.1 c.loop-i.invariant wrote.prefix

pub returns : goal.returns
returns g c = Wrote-all (rw (take_all c.loop-i.i c.args.rows.now (omega arith)) at c.loop-i.invariant)
