use Rattle.crn_tab.proofs.Prelude.{◌≡◌, ◌<◌, ◌*◌, ◌%◌, ◌^◌, sym, ap, ◌∙◌, arith, rules, to_z, of_z, ◌*ℤ◌, FitsSigned, unsigned_abs, w32, to_z-of_z, fits_signed_from_abs, int_wrap_fits, wrapping_mul_is}
use Rattle.crn_tab.proofs.ShortCross.{product_short}
use Rattle.crn_tab.proofs.short.is_quotient.Goals as goal

pub returns : goal.returns
returns c = λ h small.
    let y = c.args.y.now in
    let by = c.args.by.now in
    let x = c.args.x.now in
    let low : unsigned_abs (y *ℤ by) < 2 ^ 28 = product_short y by small c.requires in
    let fy : FitsSigned w32 y = fits_signed_from_abs w32 y (omega arith) in
    let fb : FitsSigned w32 by = fits_signed_from_abs w32 by (omega (arith, c.requires)) in
    let fx : FitsSigned w32 x = search rules in
    let e : of_z w32 y * of_z w32 by % 4294967296 ≡ of_z w32 x = grind (arith, h) in
    sym (int_wrap_fits w32 (y *ℤ by) (fits_signed_from_abs w32 (y *ℤ by) (omega arith))) ∙ sym (wrapping_mul_is w32 y by fy fb) ∙ ap (to_z w32) e ∙ to_z-of_z w32 x fx
