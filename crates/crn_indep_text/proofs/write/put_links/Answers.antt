use Rattle.crn_indep_text.proofs.Prelude.{map, [], ◌∷◌, err_from_is_err_and, WroteAll-then, small_record, stops_first, stops_later, ends_with, word_then, lines_three}
use Rattle.std.proofs.Common.{codes, pos}
use Rattle.crn_indep_text.proofs.write.put_links.Goals as goal

pub returns-in_err-put_small : goal.returns-in_err-put_small
returns-in_err-put_small g c =
    let p = err_from_is_err_and c.from_residual.result c.from_residual.ensures.1 in
    stops_first _ (word_then (codes "label") (map pos c.args.label.now) (small_record (codes "up") c.args.up.now ∷ small_record (codes "depth") c.args.depth.now ∷ [])) p.1 c.in_err-put_small.ensures.prefix

pub returns-in_err-put_small-2 : goal.returns-in_err-put_small-2
returns-in_err-put_small-2 g c =
    let p = err_from_is_err_and c.from_residual-in_err-put_small-2.result c.from_residual-in_err-put_small-2.ensures.1 in
    stops_later _ (lines_three (codes "label") (codes "up") (codes "depth") (map pos c.args.label.now) (map pos c.args.up.now) (map pos c.args.depth.now)) p.1 c.in_ok-put_small.ensures.all c.in_err-put_small-2.ensures.prefix

pub returns : goal.returns
returns g c = ends_with (lines_three (codes "label") (codes "up") (codes "depth") (map pos c.args.label.now) (map pos c.args.up.now) (map pos c.args.depth.now)) (WroteAll-then c.in_ok-put_small.ensures.all c.in_ok-put_small-2.ensures.all) c.put_small-3.ensures
