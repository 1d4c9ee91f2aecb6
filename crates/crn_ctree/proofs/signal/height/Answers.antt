use Rattle.crn_ctree.proofs.Prelude.{◌≡◌, ◌<◌, ◌^◌, ◌∙◌, ap, arith, to_z, of_z, ℤ, ◌-ℤ◌, unsigned_abs, w128, to_z-of_z, dot, dot-comm, narrow_within}
use Rattle.crn_ctree.proofs.SignalLaws.{dot_small}
use Rattle.crn_ctree.proofs.signal.height.Goals as goal

pub dot-requires-clause-a : goal.dot-requires-clause-a
dot-requires-clause-a c = narrow_within c.args.mu.now c.requires.mu.each

pub minus-requires-clause-sum : goal.minus-requires-clause-sum
minus-requires-clause-sum c =
    let mu = c.args.mu.now in
    let y = c.complex.result.now in
    let small : unsigned_abs (dot mu y) < 2 ^ 126 = dot_small mu y (omega (arith, c.requires.mu.long, c.species-few.ensures.count, c.species-few.ensures.limit)) c.requires.mu.each c.complex.ensures.small in
    let same : to_z w128 (of_z w128 c.dot.result) ≡ dot mu y = to_z-of_z w128 c.dot.result (record { sfits = c.dot.type_inv }) ∙ c.dot.ensures in
    rw same small

pub returns : goal.returns
returns c =
    let mu = c.args.mu.now in
    let y = c.complex.result.now in
    let same : to_z w128 (of_z w128 c.dot.result) ≡ dot mu y = to_z-of_z w128 c.dot.result (record { sfits = c.dot.type_inv }) ∙ c.dot.ensures in
    to_z-of_z w128 c.minus.result (record { sfits = c.minus.type_inv })
    ∙ c.minus.ensures
    ∙ ap (λ (x : ℤ). x -ℤ c.args.level.now) (same ∙ dot-comm mu y ∙ ap (λ v. dot v mu) c.complex.ensures.value)
