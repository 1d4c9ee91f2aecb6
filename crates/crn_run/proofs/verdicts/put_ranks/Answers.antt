use Rattle.crn_run.proofs.Prelude.{◌++◌, codes, length, map, refl, append_assoc, err_from_is_err_and, WroteAll-then, numbers_text, ends_with, stops_first, stops_later}
use Rattle.std.proofs.Common.{decimal, pos}
use Rattle.crn_run.proofs.verdicts.put_ranks.Goals as goal

pub returns-in_err-put_number : goal.returns-in_err-put_number
returns-in_err-put_number g c =
    let p = err_from_is_err_and c.from_residual.result c.from_residual.ensures.1 in
    stops_first _ (append_assoc (codes "parts: " ++ decimal (length c.args.ranks.now) ++ codes ", ranks") (numbers_text (map pos c.args.ranks.now)) (codes "\n")) p.1 c.in_err-put_number.ensures.prefix

pub returns-in_err-put_nums : goal.returns-in_err-put_nums
returns-in_err-put_nums g c =
    let p = err_from_is_err_and c.from_residual-in_err-put_nums.result c.from_residual-in_err-put_nums.ensures.1 in
    stops_later (codes "\n") refl p.1 c.in_ok-put_number.ensures.all c.in_err-put_nums.ensures.prefix

pub returns : goal.returns
returns g c = ends_with refl (WroteAll-then c.in_ok-put_number.ensures.all c.in_ok-put_nums.ensures.all) c.put_all.ensures.writes
