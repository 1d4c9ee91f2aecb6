use Rattle.crn_tab.proofs.Prelude.{◌≡◌, sym, ap, ◌∙◌, arith, rules, to_z, of_z, ◌*ℤ◌, FitsSigned, w64, w128, to_z-of_z}
use Rattle.crn_tab.proofs.Cross.{widened}
use Rattle.crn_tab.proofs.WideProducts.{any_widened, product_fits}
use Rattle.crn_tab.proofs.low.is_whole_quotient.Goals as goal

pub overflow_mul-result : goal.overflow_mul-result
overflow_mul-result c =
    let y = c.args.y.now in
    let by = c.args.by.now in
    let f : FitsSigned w64 y = search rules in
    rw (any_widened y f, widened by c.requires) (product_fits y by f c.requires)

pub returns : goal.returns
returns c = λ h.
    let y = c.args.y.now in
    let by = c.args.by.now in
    let x = c.args.x.now in
    let fy : FitsSigned w64 y = search rules in
    let fx : FitsSigned w64 x = search rules in
    let same = rw (any_widened y fy, widened by c.requires) at h in
    let e : of_z w128 (y *ℤ by) ≡ of_z w128 (to_z w64 (of_z w64 x)) = grind (arith, same) in
    sym (to_z-of_z w128 (y *ℤ by) (product_fits y by fy c.requires)) ∙ ap (to_z w128) e ∙ any_widened x fx
