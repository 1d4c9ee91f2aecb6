use Rattle.crn_indep_text.proofs.Prelude.{map, [], ◌∷◌, length, err_from_is_err_and, WroteAll-then, rank_records, stops_first, stops_later, ends_with, wrote_as, line_of_word, link_records}
use Rattle.std.proofs.Common.{codes, pos}
use Rattle.crn_indep_text.proofs.Written.{split_first, split_lines}
use Rattle.crn_indep_text.proofs.write.put_answer.Goals as goal

pub returns-in_err-put_small-in-Split : goal.returns-in_err-put_small-in-Split
returns-in_err-put_small-in-Split g c =
    let s = c.in-Split in
    let p = err_from_is_err_and c.from_residual.result c.from_residual.ensures.1 in
    let first = rw c.as_slice.ensures at c.in_err-put_small-in-Split.ensures in
    rw s.is (stops_first _ (split_first (codes "rank") (pos (length s.rank.base.list) ∷ []) (rank_records s.rank) (link_records s.label.list s.up.list s.depth.list)) p.1 first.prefix)

pub returns-in_err-put_rank-in-Split : goal.returns-in_err-put_rank-in-Split
returns-in_err-put_rank-in-Split g c =
    let s = c.in-Split in
    let p = err_from_is_err_and c.from_residual-in_err-put_rank-in-Split.result c.from_residual-in_err-put_rank-in-Split.ensures.1 in
    let first = rw c.as_slice.ensures at c.in_ok-put_small-in-Split.ensures in
    rw s.is (stops_later _ (split_lines (codes "rank") (pos (length s.rank.base.list) ∷ []) (rank_records s.rank) (link_records s.label.list s.up.list s.depth.list)) p.1 first.all c.in_err-put_rank-in-Split.ensures.prefix)

pub returns-in_ok-put_rank-in-Split : goal.returns-in_ok-put_rank-in-Split
returns-in_ok-put_rank-in-Split g c =
    let s = c.in-Split in
    let first = rw c.as_slice.ensures at c.in_ok-put_small-in-Split.ensures in
    let links = rw (c.as_slice-in-Split.ensures, c.as_slice-in-Split-2.ensures, c.as_slice-in-Split-3.ensures) at c.put_links.ensures in
    rw s.is (ends_with (split_lines (codes "rank") (pos (length s.rank.base.list) ∷ []) (rank_records s.rank) (link_records s.label.list s.up.list s.depth.list)) (WroteAll-then first.all c.in_ok-put_rank-in-Split.ensures.all) links)

pub returns-in-Wide : goal.returns-in-Wide
returns-in-Wide g c =
    let w = c.in-Wide in
    let wrote = rw c.as_slice-in-Wide.ensures at c.put_wide.ensures in
    rw w.is (wrote_as (line_of_word (codes "wide") (map pos (w.index ∷ w.basis.list))) wrote)
