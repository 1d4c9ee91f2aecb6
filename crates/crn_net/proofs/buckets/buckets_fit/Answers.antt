use Rattle.crn_net.proofs.Prelude.{◌≡◌, take, take_all}
use Rattle.crn_net.proofs.BucketSums.{fit_by_buckets}
use Rattle.crn_net.proofs.buckets.buckets_fit.Goals as goal

pub returns : goal.returns
returns c = λ fit name.
    let side = c.args.side.now in
    let whole : take c.loop-term.term-index side ≡ side = take_all c.loop-term.term-index side c.loop-term-test.false in
    let all = rw whole at c.loop-term.invariant in
    fit_by_buckets c.args.text.now side c.args.size c.loop-term.sums.items c.requires.some all name
