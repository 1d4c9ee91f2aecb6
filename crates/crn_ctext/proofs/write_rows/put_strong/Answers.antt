use Rattle.crn_ctext.proofs.Prelude.{map, err_from_is_err_and, WroteAll-then, WrotePrefix-then, WrotePrefix-more, Wrote-prefix}
use Rattle.std.proofs.Common.{pos, codes}
use Rattle.crn_ctext.proofs.Pieces.{ends_with, wrote_as}
use Rattle.crn_ctext.proofs.WrittenLines.{lines_five}
use Rattle.crn_ctext.proofs.write_rows.put_strong.Goals as goal

pub returns-in_err-put_small : goal.returns-in_err-put_small
returns-in_err-put_small g c =
    let p = err_from_is_err_and c.from_residual.result c.from_residual.ensures.1 in
    (wrote_as (lines_five (codes "from") (codes "fromdepth") (codes "to") (codes "todepth") (codes "level") (map pos c.args.from.now) (map pos c.args.from_depth.now) (map pos c.args.to.now) (map pos c.args.to_depth.now) (map pos c.args.level.now)) (Wrote-prefix p.1 (WrotePrefix-more _ (WrotePrefix-more _ (WrotePrefix-more _ (WrotePrefix-more _ c.in_err-put_small.ensures.prefix))))))

pub returns-in_err-put_small-2 : goal.returns-in_err-put_small-2
returns-in_err-put_small-2 g c =
    let p = err_from_is_err_and c.from_residual-in_err-put_small-2.result c.from_residual-in_err-put_small-2.ensures.1 in
    (wrote_as (lines_five (codes "from") (codes "fromdepth") (codes "to") (codes "todepth") (codes "level") (map pos c.args.from.now) (map pos c.args.from_depth.now) (map pos c.args.to.now) (map pos c.args.to_depth.now) (map pos c.args.level.now)) (Wrote-prefix p.1 (WrotePrefix-more _ (WrotePrefix-more _ (WrotePrefix-more _ (WrotePrefix-then c.in_ok-put_small.ensures.all c.in_err-put_small-2.ensures.prefix))))))

pub returns-in_err-put_small-3 : goal.returns-in_err-put_small-3
returns-in_err-put_small-3 g c =
    let p = err_from_is_err_and c.from_residual-in_err-put_small-3.result c.from_residual-in_err-put_small-3.ensures.1 in
    (wrote_as (lines_five (codes "from") (codes "fromdepth") (codes "to") (codes "todepth") (codes "level") (map pos c.args.from.now) (map pos c.args.from_depth.now) (map pos c.args.to.now) (map pos c.args.to_depth.now) (map pos c.args.level.now)) (Wrote-prefix p.1 (WrotePrefix-more _ (WrotePrefix-more _ (WrotePrefix-then (WroteAll-then c.in_ok-put_small.ensures.all c.in_ok-put_small-2.ensures.all) c.in_err-put_small-3.ensures.prefix)))))

pub returns-in_err-put_small-4 : goal.returns-in_err-put_small-4
returns-in_err-put_small-4 g c =
    let p = err_from_is_err_and c.from_residual-in_err-put_small-4.result c.from_residual-in_err-put_small-4.ensures.1 in
    (wrote_as (lines_five (codes "from") (codes "fromdepth") (codes "to") (codes "todepth") (codes "level") (map pos c.args.from.now) (map pos c.args.from_depth.now) (map pos c.args.to.now) (map pos c.args.to_depth.now) (map pos c.args.level.now)) (Wrote-prefix p.1 (WrotePrefix-more _ (WrotePrefix-then (WroteAll-then (WroteAll-then c.in_ok-put_small.ensures.all c.in_ok-put_small-2.ensures.all) c.in_ok-put_small-3.ensures.all) c.in_err-put_small-4.ensures.prefix))))

pub returns : goal.returns
returns g c =
    (ends_with (lines_five (codes "from") (codes "fromdepth") (codes "to") (codes "todepth") (codes "level") (map pos c.args.from.now) (map pos c.args.from_depth.now) (map pos c.args.to.now) (map pos c.args.to_depth.now) (map pos c.args.level.now)) (WroteAll-then (WroteAll-then (WroteAll-then c.in_ok-put_small.ensures.all c.in_ok-put_small-2.ensures.all) c.in_ok-put_small-3.ensures.all) c.in_ok-put_small-4.ensures.all) c.put_small-5.ensures)
