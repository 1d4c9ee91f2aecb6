use Rattle.crn_tab.proofs.Prelude.{arith, FitsSigned, int_div, w64, ints, quot_is, quot_fits, fits_signed_from_abs, exact}
use Rattle.crn_tab.proofs.combine.over.Goals as goal

pub returns-else-divisor-eq1-clause-value : goal.returns-else-divisor-eq1-clause-value
returns-else-divisor-eq1-clause-value c =
    let x = c.args.x.now in
    let d = c.args.divisor.now in
    let fx : FitsSigned w64 x = fits_signed_from_abs w64 x (omega (arith, c.requires.small)) in
    let fd : FitsSigned w64 d = fits_signed_from_abs w64 d (omega (arith, c.requires.divisor_small)) in
    let fq : FitsSigned w64 (int_div x d) = quot_fits w64 x d fx (omega (arith, ints, c.requires.some)) in
    rw (quot_is w64 x d fx fd fq) (exact x d c.requires.divides)
