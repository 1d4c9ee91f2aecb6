use Rattle.crn_check.proofs.Prelude.{err_from_is_err_and, strong_trees, exit_tests}
use Rattle.crn_check.proofs.Judging.{judges_stop, judges_go}
use Rattle.crn_check.proofs.strong.check_strong.Goals as goal

pub returns-in_err-check_trees-in-Strong-Strong : goal.returns-in_err-check_trees-in-Strong-Strong
returns-in_err-check_trees-in-Strong-Strong c =
    let net = c.args.net.now in
    let v = c.in-Strong-Strong in
    let p = err_from_is_err_and c.from_residual.result c.from_residual.ensures.1 in
    let h = c.in_err-check_trees-in-Strong-Strong.ensures in
    let moved = rw (c.as_slice.ensures, c.as_slice-in-Strong-Strong.ensures, c.as_slice-in-Strong-Strong-2.ensures, c.as_slice-in-Strong-Strong-3.ensures, c.as_slice-in-Strong-Strong-4.ensures) at h in
    rw (v.is-0, v.is-1)
    (judges_stop (strong_trees net v.count v.label.list v.from.list v.from_depth.list v.to.list v.to_depth.list) (exit_tests net v.terminal v.label.list v.level.list v.exit.list) c.from_residual.result p.0 c.in_err-check_trees-in-Strong-Strong.field-0.0 p.1 p.2 moved)

pub returns-in_ok-check_trees-in-Strong-Strong : goal.returns-in_ok-check_trees-in-Strong-Strong
returns-in_ok-check_trees-in-Strong-Strong c =
    let net = c.args.net.now in
    let v = c.in-Strong-Strong in
    let trees = rw (c.as_slice.ensures, c.as_slice-in-Strong-Strong.ensures, c.as_slice-in-Strong-Strong-2.ensures, c.as_slice-in-Strong-Strong-3.ensures, c.as_slice-in-Strong-Strong-4.ensures) at c.in_ok-check_trees-in-Strong-Strong.ensures in
    let exits = rw (c.as_slice-in-Strong-Strong-5.ensures, c.as_slice-in-Strong-Strong-6.ensures, c.as_slice-in-Strong-Strong-7.ensures) at c.check_exits.ensures in
    rw (v.is-0, v.is-1)
    (judges_go (strong_trees net v.count v.label.list v.from.list v.from_depth.list v.to.list v.to_depth.list) (exit_tests net v.terminal v.label.list v.level.list v.exit.list) c.check_exits.result trees exits)
