use Rattle.crn_frac.proofs.Prelude.{arith, rules, ◌^◌, ◌<◌, FitsSigned, int_div, unsigned_abs, w64, w128, ints, quot_is, quot_fits, fits_signed_from_abs, to_z-of_z}
use Rattle.crn_frac.proofs.Whole.{exact}
use Rattle.crn_frac.proofs.divisor.exact_quotient.Goals as goal

pub returns : goal.returns
returns c =
    let a = c.args.a.now in
    let d = c.args.by.now in
    let fa : FitsSigned w128 a = fits_signed_from_abs w128 a c.requires.small in
    let fd : FitsSigned w128 d = search rules in
    let fq : FitsSigned w128 (int_div a d) = quot_fits w128 a d fa (omega (arith, ints)) in
    rw (quot_is w128 a d fa fd fq) (exact a d c.requires.divides)

-- numbers of 64 bits, and the same of 128
pub returns-then-is_short-2 : goal.returns-then-is_short-2
returns-then-is_short-2 c =
    let a = c.args.a.now in
    let d = c.args.by.now in
    let a_small : unsigned_abs a < 2 ^ 63 = omega arith in
    let d_small : unsigned_abs d < 2 ^ 63 = omega arith in
    let fa : FitsSigned w64 a = fits_signed_from_abs w64 a a_small in
    let fd : FitsSigned w64 d = fits_signed_from_abs w64 d d_small in
    let fq : FitsSigned w64 (int_div a d) = quot_fits w64 a d fa (omega (arith, ints)) in
    let ga : FitsSigned w128 a = fits_signed_from_abs w128 a c.requires.small in
    let gd : FitsSigned w128 d = fits_signed_from_abs w128 d (omega (arith, d_small)) in
    let gq : FitsSigned w128 (int_div a d) = quot_fits w128 a d ga (omega (arith, ints)) in
    rw (to_z-of_z w128 a ga, to_z-of_z w128 d gd, quot_is w64 a d fa fd fq, to_z-of_z w128 (int_div a d) gq) (exact a d c.requires.divides)
