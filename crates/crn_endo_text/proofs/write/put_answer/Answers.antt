use Rattle.crn_endo_text.proofs.Prelude.{map, [], ◌∷◌, flat_map, err_from_is_err_and, nodes, stops_first, ends_with, wrote_as, line_of_word, word_then, lines_two}
use Rattle.std.proofs.Common.{codes, pos}
use Rattle.crn_endo_text.proofs.write.put_answer.Goals as goal

pub returns-in_err-put_free-in-Yes : goal.returns-in_err-put_free-in-Yes
returns-in_err-put_free-in-Yes g c =
    let p = err_from_is_err_and c.from_residual.result c.from_residual.ensures.1 in
    rw c.in-Yes.is (stops_first _ (word_then (codes "yes") [] (flat_map nodes c.in-Yes.trees)) p.1 c.in_err-put_free-in-Yes.ensures.prefix)

pub returns-in_ok-put_free-in-Yes : goal.returns-in_ok-put_free-in-Yes
returns-in_ok-put_free-in-Yes g c = rw c.in-Yes.is (ends_with (word_then (codes "yes") [] (flat_map nodes c.in-Yes.trees)) c.in_ok-put_free-in-Yes.ensures.all c.put_trees.ensures)

pub returns-in_err-put_small-in-No : goal.returns-in_err-put_small-in-No
returns-in_err-put_small-in-No g c =
    let n = c.in-No in
    let p = err_from_is_err_and c.from_residual-in_err-put_small-in-No.result c.from_residual-in_err-put_small-in-No.ensures.1 in
    rw n.is (stops_first _ (lines_two (codes "no") (codes "slope") (map pos (n.reaction ∷ [])) n.slope.list) p.1 c.in_err-put_small-in-No.ensures.prefix)

pub returns-in_ok-put_small-in-No : goal.returns-in_ok-put_small-in-No
returns-in_ok-put_small-in-No g c =
    let n = c.in-No in
    let last = rw c.as_slice.ensures at c.put_free-in-No.ensures in
    rw n.is (ends_with (lines_two (codes "no") (codes "slope") (map pos (n.reaction ∷ [])) n.slope.list) c.in_ok-put_small-in-No.ensures.all last)

pub returns-in-Wide : goal.returns-in-Wide
returns-in-Wide g c =
    let w = c.in-Wide in
    let wrote = rw c.as_slice-in-Wide.ensures at c.put_wide.ensures in
    rw w.is (wrote_as (line_of_word (codes "wide") (map pos (w.reaction ∷ w.index ∷ w.basis.list))) wrote)
