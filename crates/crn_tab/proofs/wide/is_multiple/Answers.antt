use Rattle.crn_tab.proofs.Prelude.{to_z, of_z, w64}
use Rattle.crn_tab.proofs.WideProducts.{times_divides}
use Rattle.crn_tab.proofs.wide.is_multiple.Goals as goal

pub returns : goal.returns
returns c = λ h. times_divides (to_z w64 (of_z w64 c.wide_inverse_quotient-y.result)) c.args.by.now c.args.x.now (c.is_wide_quotient.ensures h)
