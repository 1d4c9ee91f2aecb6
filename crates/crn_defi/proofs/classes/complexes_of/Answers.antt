use Rattle.crn_defi.proofs.Prelude.{◌≤◌, ◌==◌, length, take, arith, length-take, class_members, filter_few}
use Rattle.crn_defi.proofs.classes.complexes_of.Goals as goal

pub overflow_add-count : goal.overflow_add-count
overflow_add-count c =
    let i = c.loop-own.own-index in
    let few : length (class_members (take i c.args.label.now) c.args.class) ≤ length (take i c.args.label.now) = filter_few (λ m. m == c.args.class) (take i c.args.label.now) in
    omega (arith, few, c.loop-own.invariant, length-take i c.args.label.now)
