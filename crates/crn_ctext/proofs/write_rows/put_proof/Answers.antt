use Rattle.crn_ctext.proofs.Prelude.{map, err_from_is_err_and}
use Rattle.std.proofs.Common.{pos, codes}
use Rattle.crn_ctext.proofs.Pieces.{stops_first, ends_with, wrote_as}
use Rattle.crn_ctext.proofs.WrittenLines.{line_of_word, lines_two, lines_of_rows}
use Rattle.crn_ctext.proofs.write_rows.put_proof.Goals as goal

pub returns-in_err-put_small-in-Forest : goal.returns-in_err-put_small-in-Forest
returns-in_err-put_small-in-Forest g c =
    let p = err_from_is_err_and c.from_residual.result c.from_residual.ensures.1 in
    let first = rw c.as_slice.ensures at c.in_err-put_small-in-Forest.ensures in
    rw c.in-Forest.is (stops_first _ (lines_two (codes "up") (codes "depth") (map pos c.in-Forest.up.list) (map pos c.in-Forest.depth.list)) p.1 first.prefix)

pub returns-in_ok-put_small-in-Forest : goal.returns-in_ok-put_small-in-Forest
returns-in_ok-put_small-in-Forest g c =
    let first = rw c.as_slice.ensures at c.in_ok-put_small-in-Forest.ensures in
    let last = rw c.as_slice-in-Forest.ensures at c.put_small-in-Forest.ensures in
    rw c.in-Forest.is (ends_with (lines_two (codes "up") (codes "depth") (map pos c.in-Forest.up.list) (map pos c.in-Forest.depth.list)) first.all last)

pub returns-in-Back : goal.returns-in-Back
returns-in-Back g c =
    let wrote = rw c.as_slice-in-Back.ensures at c.put_small-in-Back.ensures in
    rw c.in-Back.is (wrote_as (line_of_word (codes "back") (map pos c.in-Back.back.list)) wrote)

pub returns-in-Ties : goal.returns-in-Ties
returns-in-Ties g c = rw c.in-Ties.is (wrote_as (lines_of_rows (codes "tie") c.in-Ties.rows) c.put_rows.ensures)
