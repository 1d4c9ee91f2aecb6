use Rattle.crn_siphon.proofs.Prelude.{rules, FitsSigned, to_z-of_z, w128}
use Rattle.std.proofs.Common.{ℤ, ◌*ℤ◌}
use Rattle.crn_siphon.proofs.ChangeLaws.{small_product}
use Rattle.crn_siphon.proofs.trial.product_of.Goals as goal

pub overflow_mul-result : goal.overflow_mul-result
overflow_mul-result c =
    let x = c.args.x.now in
    let y = c.args.y.now in
    let fits_x : FitsSigned w128 x = search rules in
    let fits_y : FitsSigned w128 y = search rules in
    let fits : FitsSigned w128 (x *ℤ y) = small_product x y (c.is_small.ensures c.if-is_small.true) (c.is_small-then-is_small.ensures c.if-is_small-2.true) in
    rw (to_z-of_z w128 x fits_x, to_z-of_z w128 y fits_y) fits

pub returns-then-is_small-2 : goal.returns-then-is_small-2
returns-then-is_small-2 c =
    let x = c.args.x.now in
    let y = c.args.y.now in
    let fits_x : FitsSigned w128 x = search rules in
    let fits_y : FitsSigned w128 y = search rules in
    let fits : FitsSigned w128 (x *ℤ y) = small_product x y (c.is_small.ensures c.if-is_small.true) (c.is_small-then-is_small.ensures c.if-is_small-2.true) in
    rw (to_z-of_z w128 x fits_x, to_z-of_z w128 y fits_y) (to_z-of_z w128 (x *ℤ y) fits)
