use Rattle.crn_check.proofs.Prelude.{◌≡◌, ◌<◌, length, arith, goes_at, refused}
use Rattle.crn_check.proofs.Decided.{granted}
use Rattle.crn_check.proofs.Counted.{place_between, between_place}
use Rattle.crn_check.proofs.labels.are_even.Goals as goal

pub returns-then-labels-reactant : goal.returns-then-labels-reactant
returns-then-labels-reactant c =
    let net = c.args.net.now in
    let y = c.reactant.result in
    let z = c.product.result in
    let lt : c.loop-r.r < length net.reactions = omega (arith, c.loop-r-test.true, c.reactions-r-end.ensures.count) in
    let goes = goes_at net c.loop-r.r y z lt c.reactant.ensures.value c.product.ensures.value in
    refused (λ even. c.if-labels-reactant.true (even y z (between_place net c.loop-r.r y z goes)))

pub returns : goal.returns
returns c =
    let all : c.loop-r.r ≡ length c.args.net.now.reactions = omega (arith, c.reactions-r-end.ensures.count) in
    granted (λ y z h. let f = place_between c.args.net.now y z h in c.loop-r.invariant f.0 y z (omega (arith, f.1.0, all)) f.1)
