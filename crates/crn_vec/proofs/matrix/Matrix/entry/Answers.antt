use Rattle.crn_vec.proofs.Prelude.{◌≤◌, ◌<◌, ◌^◌, arith, lit<, ℤ, unsigned_abs, w128, to_z-of_z, fits_signed_from_abs, MAX_AMOUNT, entry}
use Rattle.crn_vec.proofs.RowLists.{within_at}
use Rattle.crn_vec.proofs.matrix.Matrix.entry.Goals as goal

pub returns-clause-small : goal.returns-clause-small
returns-clause-small c =
    let x : ℤ = entry c.row.result.now c.args.col in
    let small : unsigned_abs x ≤ MAX_AMOUNT = within_at MAX_AMOUNT c.args.col c.row.result.now c.row.ensures.small in
    let below : MAX_AMOUNT < 2 ^ 127 = lit< tt in
    rw (to_z-of_z w128 x (fits_signed_from_abs w128 x (omega (arith, small, below)))) small
