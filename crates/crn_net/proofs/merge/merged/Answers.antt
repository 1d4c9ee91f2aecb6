use Rattle.crn_net.proofs.Prelude.{◌∙◌}
use Rattle.crn_net.proofs.Merged.{sum_both}
use Rattle.crn_net.proofs.merge.merged.Goals as goal

pub returns-clause-sums : goal.returns-clause-sums
returns-clause-sums c = λ name.
    let first = c.in_ok-put_shares.ensures.sums name in
    let second = c.in_ok-put_shares-2.ensures.sums name in
    second ∙ sum_both c.args.text.now c.put_shares.new.shares.items c.args.left.now c.args.right.now name (rw c.in_ok-shares.ensures.items at first)
