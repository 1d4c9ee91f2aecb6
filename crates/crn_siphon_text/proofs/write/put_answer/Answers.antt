use Rattle.crn_siphon_text.proofs.Prelude.{map, [], ◌∷◌, err_from_is_err_and, WroteAll-then, one_word, stops_first, stops_later, ends_with, wrote_as, line_of_word, word_then, lines_two, lines_three, tree_records}
use Rattle.std.proofs.Common.{codes, pos}
use Rattle.crn_siphon_text.proofs.Written.{yes_lines}
use Rattle.crn_siphon_text.proofs.write.put_answer.Goals as goal

pub returns-in_err-put_free-in-Yes : goal.returns-in_err-put_free-in-Yes
returns-in_err-put_free-in-Yes g c =
    let p = err_from_is_err_and c.from_residual.result c.from_residual.ensures.1 in
    rw c.in-Yes.is (stops_first _ (word_then (codes "yes") [] (one_word (codes "vec") c.in-Yes.law.list ∷ tree_records c.in-Yes.tree)) p.1 c.in_err-put_free-in-Yes.ensures.prefix)

pub returns-in_err-put_free-in-Yes-2 : goal.returns-in_err-put_free-in-Yes-2
returns-in_err-put_free-in-Yes-2 g c =
    let p = err_from_is_err_and c.from_residual-in_err-put_free-in-Yes-2.result c.from_residual-in_err-put_free-in-Yes-2.ensures.1 in
    let second = rw c.as_slice.ensures at c.in_err-put_free-in-Yes-2.ensures in
    rw c.in-Yes.is (stops_later _ (yes_lines c.in-Yes.law.list (tree_records c.in-Yes.tree)) p.1 c.in_ok-put_free-in-Yes.ensures.all second.prefix)

pub returns-in_ok-put_free-in-Yes-2 : goal.returns-in_ok-put_free-in-Yes-2
returns-in_ok-put_free-in-Yes-2 g c =
    let second = rw c.as_slice.ensures at c.in_ok-put_free-in-Yes-2.ensures in
    rw c.in-Yes.is (ends_with (yes_lines c.in-Yes.law.list (tree_records c.in-Yes.tree)) (WroteAll-then c.in_ok-put_free-in-Yes.ensures.all second.all) c.put_tree.ensures)

pub returns-in_err-put_free-in-NoLaw : goal.returns-in_err-put_free-in-NoLaw
returns-in_err-put_free-in-NoLaw g c =
    let p = err_from_is_err_and c.from_residual-in_err-put_free-in-NoLaw.result c.from_residual-in_err-put_free-in-NoLaw.ensures.1 in
    rw c.in-NoLaw.is (stops_first _ (lines_two (codes "no") (codes "cut") [] c.in-NoLaw.cut.list) p.1 c.in_err-put_free-in-NoLaw.ensures.prefix)

pub returns-in_ok-put_free-in-NoLaw : goal.returns-in_ok-put_free-in-NoLaw
returns-in_ok-put_free-in-NoLaw g c =
    let last = rw c.as_slice-in-NoLaw.ensures at c.put_free-in-NoLaw-2.ensures in
    rw c.in-NoLaw.is (ends_with (lines_two (codes "no") (codes "cut") [] c.in-NoLaw.cut.list) c.in_ok-put_free-in-NoLaw.ensures.all last)

pub returns-in_err-put_free-in-NoSiphon : goal.returns-in_err-put_free-in-NoSiphon
returns-in_err-put_free-in-NoSiphon g c =
    let p = err_from_is_err_and c.from_residual-in_err-put_free-in-NoSiphon.result c.from_residual-in_err-put_free-in-NoSiphon.ensures.1 in
    rw c.in-NoSiphon.is (stops_first _ (word_then (codes "no") [] (one_word (codes "siphon") c.in-NoSiphon.marks.list ∷ one_word (codes "mult") c.in-NoSiphon.cover.list ∷ [])) p.1 c.in_err-put_free-in-NoSiphon.ensures.prefix)

pub returns-in_err-put_free-in-NoSiphon-2 : goal.returns-in_err-put_free-in-NoSiphon-2
returns-in_err-put_free-in-NoSiphon-2 g c =
    let p = err_from_is_err_and c.from_residual-in_err-put_free-in-NoSiphon-2.result c.from_residual-in_err-put_free-in-NoSiphon-2.ensures.1 in
    let second = rw c.as_slice-in-NoSiphon.ensures at c.in_err-put_free-in-NoSiphon-2.ensures in
    rw c.in-NoSiphon.is (stops_later _ (lines_three (codes "no") (codes "siphon") (codes "mult") [] c.in-NoSiphon.marks.list c.in-NoSiphon.cover.list) p.1 c.in_ok-put_free-in-NoSiphon.ensures.all second.prefix)

pub returns-in_ok-put_free-in-NoSiphon-2 : goal.returns-in_ok-put_free-in-NoSiphon-2
returns-in_ok-put_free-in-NoSiphon-2 g c =
    let second = rw c.as_slice-in-NoSiphon.ensures at c.in_ok-put_free-in-NoSiphon-2.ensures in
    let last = rw c.as_slice-in-NoSiphon-2.ensures at c.put_free-in-NoSiphon-3.ensures in
    rw c.in-NoSiphon.is (ends_with (lines_three (codes "no") (codes "siphon") (codes "mult") [] c.in-NoSiphon.marks.list c.in-NoSiphon.cover.list) (WroteAll-then c.in_ok-put_free-in-NoSiphon.ensures.all second.all) last)

pub returns-in-Wide : goal.returns-in-Wide
returns-in-Wide g c =
    let w = c.in-Wide in
    let wrote = rw c.as_slice-in-Wide.ensures at c.put_wide.ensures in
    rw w.is (wrote_as (line_of_word (codes "wide") (map pos (w.system ∷ w.index ∷ w.basis.list))) wrote)
