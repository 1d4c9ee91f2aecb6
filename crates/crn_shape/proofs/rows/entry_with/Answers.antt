use Rattle.crn_shape.proofs.Prelude.{◌≤◌, arith, unsigned_abs, MAX_AMOUNT, entry, held, within_at}
use Rattle.crn_shape.proofs.rows.entry_with.Goals as goal

pub returns-then-place-values-clause-small : goal.returns-then-place-values-clause-small
returns-then-place-values-clause-small c =
    let x = entry c.args.values.now c.args.place in
    let small : unsigned_abs x ≤ MAX_AMOUNT = within_at MAX_AMOUNT c.args.place c.args.values.now c.requires.small in
    rw (held x (omega (arith, small))) small
