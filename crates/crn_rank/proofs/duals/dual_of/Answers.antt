use Rattle.crn_rank.proofs.Prelude.{◌+◌, ℕ, sym, subst, arith, IsIn}
use Rattle.crn_rank.proofs.WideNames.{wide_column}
use Rattle.crn_rank.proofs.duals.dual_of.Goals as goal

pub overflow_add-own : goal.overflow_add-own
overflow_add-own c =
    let t = c.names_rows.ensures in
    let below = t.basis_is.below (c.args.tableau.now.matrix.cols + c.args.k) c.requires.member in
    omega (arith, t.few, below, c.cols.ensures)

pub returns-in-Err-clause-stop : goal.returns-in-Err-clause-stop
returns-in-Err-clause-stop c =
    let basis = c.args.tableau.now.basis in
    let member : IsIn (c.cols.result + c.args.k) basis = subst (λ (n : ℕ). IsIn (n + c.args.k) basis) (sym c.cols.ensures) c.requires.member in
    wide_column c.args.tableau.now.matrix basis (c.cols.result + c.args.k) c.in-Err.wide.index c.in_ok-basis_after.field-0.list c.names_rows.ensures member
    c.in-Err.ensures.index c.in-Err.ensures.wide c.in_ok-basis_after.ensures
