use Rattle.crn_tab.proofs.Prelude.{refl, arith, FitsSigned, ◌*ℤ◌, w64, fits_signed_from_abs}
use Rattle.crn_tab.proofs.Cross.{read}
use Rattle.crn_tab.proofs.low.product.Goals as goal

pub overflow_mul-result : goal.overflow_mul-result
overflow_mul-result c =
    let f : FitsSigned w64 (c.args.x.now *ℤ c.args.by.now) = fits_signed_from_abs w64 (c.args.x.now *ℤ c.args.by.now) (omega (arith, c.requires.small)) in
    rw (read c.args.x.now c.requires.x, read c.args.by.now c.requires.by) f

pub returns : goal.returns
returns c = rw (read c.args.x.now c.requires.x, read c.args.by.now c.requires.by, read (c.args.x.now *ℤ c.args.by.now) c.requires.small) refl
