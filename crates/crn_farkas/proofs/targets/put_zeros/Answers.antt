use Rattle.crn_farkas.proofs.Prelude.{length}
use Rattle.crn_farkas.proofs.Finals.{all_zeros}
use Rattle.crn_farkas.proofs.targets.put_zeros.Goals as goal

pub returns : goal.returns
returns c = all_zeros (length c.args.sum.now) c.fill.new.self (c.fill.ensures.after (λ y e. e))
