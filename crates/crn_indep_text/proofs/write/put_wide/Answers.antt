use Rattle.crn_indep_text.proofs.Prelude.{refl, err_from_is_err_and, WroteAll-then, stops_first, stops_later, ends_with}
use Rattle.crn_indep_text.proofs.Written.{wide_line, wide_second}
use Rattle.crn_indep_text.proofs.write.put_wide.Goals as goal

pub returns-in_err-put_all : goal.returns-in_err-put_all
returns-in_err-put_all g c =
    let p = err_from_is_err_and c.from_residual.result c.from_residual.ensures.1 in
    stops_first _ refl p.1 c.in_err-put_all.ensures.writes.prefix

pub returns-in_err-put_nums : goal.returns-in_err-put_nums
returns-in_err-put_nums g c =
    let p = err_from_is_err_and c.from_residual-in_err-put_nums.result c.from_residual-in_err-put_nums.ensures.1 in
    stops_later _ (wide_second c.args.index c.args.basis.now) p.1 c.in_ok-put_all.ensures.writes.all c.in_err-put_nums.ensures.prefix

pub returns-in_err-put_nums-2 : goal.returns-in_err-put_nums-2
returns-in_err-put_nums-2 g c =
    let p = err_from_is_err_and c.from_residual-in_err-put_nums-2.result c.from_residual-in_err-put_nums-2.ensures.1 in
    stops_later _ (wide_line c.args.index c.args.basis.now) p.1 (WroteAll-then c.in_ok-put_all.ensures.writes.all c.in_ok-put_nums.ensures.all) c.in_err-put_nums-2.ensures.prefix

pub returns : goal.returns
returns g c = ends_with (wide_line c.args.index c.args.basis.now) (WroteAll-then (WroteAll-then c.in_ok-put_all.ensures.writes.all c.in_ok-put_nums.ensures.all) c.in_ok-put_nums-2.ensures.all) c.put_all-2.ensures.writes
