use Rattle.crn_ctext.proofs.Prelude.{map, err_from_is_err_and, WroteAll-then, WrotePrefix-then, WrotePrefix-more, Wrote-prefix, numbers_text, pair_at}
use Rattle.std.proofs.Common.{pos, codes}
use Rattle.crn_ctext.proofs.Pieces.{ends_with, wrote_as}
use Rattle.crn_ctext.proofs.WrittenLines.{side_line}
use Rattle.crn_ctext.proofs.write_rows.put_side.Goals as goal

pub returns-in_err-put_all : goal.returns-in_err-put_all
returns-in_err-put_all g c =
    let p = err_from_is_err_and c.from_residual.result c.from_residual.ensures.1 in
    wrote_as (side_line c.args.pairs.now c.args.i c.args.marks.now) (Wrote-prefix p.1 (WrotePrefix-more (codes "\n") (WrotePrefix-more (numbers_text c.args.marks.now) (WrotePrefix-more (numbers_text (map pos (pair_at c.args.pairs.now c.args.i))) c.in_err-put_all.ensures.writes.prefix))))

pub returns-in_err-put_pair : goal.returns-in_err-put_pair
returns-in_err-put_pair g c =
    let p = err_from_is_err_and c.from_residual-in_err-put_pair.result c.from_residual-in_err-put_pair.ensures.1 in
    wrote_as (side_line c.args.pairs.now c.args.i c.args.marks.now) (Wrote-prefix p.1 (WrotePrefix-more _ (WrotePrefix-more _ (WrotePrefix-then c.in_ok-put_all.ensures.writes.all c.in_err-put_pair.ensures.prefix))))

pub returns-in_err-put_ints : goal.returns-in_err-put_ints
returns-in_err-put_ints g c =
    let p = err_from_is_err_and c.from_residual-in_err-put_ints.result c.from_residual-in_err-put_ints.ensures.1 in
    let first = WroteAll-then c.in_ok-put_all.ensures.writes.all c.in_ok-put_pair.ensures.all in
    wrote_as (side_line c.args.pairs.now c.args.i c.args.marks.now) (Wrote-prefix p.1 (WrotePrefix-more _ (WrotePrefix-then first c.in_err-put_ints.ensures.prefix)))

pub returns : goal.returns
returns g c =
    let first = WroteAll-then c.in_ok-put_all.ensures.writes.all c.in_ok-put_pair.ensures.all in
    ends_with (side_line c.args.pairs.now c.args.i c.args.marks.now) (WroteAll-then first c.in_ok-put_ints.ensures.all) c.put_all-2.ensures.writes
