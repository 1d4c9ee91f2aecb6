use Rattle.crn_robust_text.proofs.Prelude.{map, [], ◌∷◌, err_from_is_err_and, stops_first, ends_with, wrote_as, line_of_word, lines_two}
use Rattle.std.proofs.Common.{codes, pos}
use Rattle.crn_robust_text.proofs.write.put_case.Goals as goal

pub returns-in_err-put_small-in-Yes : goal.returns-in_err-put_small-in-Yes
returns-in_err-put_small-in-Yes g c =
    let p = err_from_is_err_and c.from_residual.result c.from_residual.ensures.1 in
    rw c.in-Yes.is (stops_first _ (lines_two (codes "line") (codes "yes") (pos 1 ∷ []) (map pos (c.in-Yes.species ∷ c.in-Yes.first ∷ c.in-Yes.second ∷ []))) p.1 c.in_err-put_small-in-Yes.ensures.prefix)

pub returns-in_ok-put_small-in-Yes : goal.returns-in_ok-put_small-in-Yes
returns-in_ok-put_small-in-Yes g c = rw c.in-Yes.is (ends_with (lines_two (codes "line") (codes "yes") (pos 1 ∷ []) (map pos (c.in-Yes.species ∷ c.in-Yes.first ∷ c.in-Yes.second ∷ []))) c.in_ok-put_small-in-Yes.ensures.all c.put_small-in-Yes.ensures)

pub returns-in_err-put_small-in-Number : goal.returns-in_err-put_small-in-Number
returns-in_err-put_small-in-Number g c =
    let p = err_from_is_err_and c.from_residual-in_err-put_small-in-Number.result c.from_residual-in_err-put_small-in-Number.ensures.1 in
    rw c.in-Number.is (stops_first _ (lines_two (codes "line") (codes "number") (pos 0 ∷ []) (map pos (c.in-Number.deficiency ∷ []))) p.1 c.in_err-put_small-in-Number.ensures.prefix)

pub returns-in_ok-put_small-in-Number : goal.returns-in_ok-put_small-in-Number
returns-in_ok-put_small-in-Number g c = rw c.in-Number.is (ends_with (lines_two (codes "line") (codes "number") (pos 0 ∷ []) (map pos (c.in-Number.deficiency ∷ []))) c.in_ok-put_small-in-Number.ensures.all c.put_small-in-Number-2.ensures)

pub returns-in_err-put_small-in-None : goal.returns-in_err-put_small-in-None
returns-in_err-put_small-in-None g c =
    let p = err_from_is_err_and c.from_residual-in_err-put_small-in-None.result c.from_residual-in_err-put_small-in-None.ensures.1 in
    rw c.in-None.is (stops_first _ (lines_two (codes "line") (codes "none") (pos 1 ∷ []) []) p.1 c.in_err-put_small-in-None.ensures.prefix)

pub returns-in_ok-put_small-in-None : goal.returns-in_ok-put_small-in-None
returns-in_ok-put_small-in-None g c = rw c.in-None.is (ends_with (lines_two (codes "line") (codes "none") (pos 1 ∷ []) []) c.in_ok-put_small-in-None.ensures.all c.put_small-in-None-2.ensures)

pub returns-in-Rests : goal.returns-in-Rests
returns-in-Rests g c = rw c.in-Rests.is (wrote_as (line_of_word (codes "rests") []) c.put_small-in-Rests.ensures)
