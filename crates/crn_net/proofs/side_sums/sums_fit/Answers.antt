use Rattle.crn_net.proofs.Prelude.{refl, arith}
use Rattle.crn_net.proofs.Amounts.{amounts_most}
use Rattle.crn_net.proofs.Sums.{total_fits}
use Rattle.crn_net.proofs.side_sums.sums_fit.Goals as goal

pub total-requires : goal.total-requires
total-requires c = total_fits c.args.side.now c.requires.numbers c.requires.few

pub returns-then-total-le-MAX_AMOUNT : goal.returns-then-total-le-MAX_AMOUNT
returns-then-total-le-MAX_AMOUNT c = (
  λ h. let small = c.if-total-le-MAX_AMOUNT.true in let is = c.total.ensures in amounts_most c.args.text.now c.args.side.now (omega (arith, small, is)),
  λ h. refl,
)
