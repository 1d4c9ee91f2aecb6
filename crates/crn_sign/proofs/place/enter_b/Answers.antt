use Rattle.crn_sign.proofs.Prelude.{length, refl, Signed}
use Rattle.crn_sign.proofs.PlaceLaws.{around_settling}
use Rattle.crn_sign.proofs.place.enter_b.Goals as goal

pub settle_b-requires-clause-place : goal.settle_b-requires-clause-place
settle_b-requires-clause-place g c =
    let w : Signed = g.P.SignProblem.signed c.args.problem.now in
    let h = c.requires.here in
    around_settling w.matrix_b w.kinds_b h.0 c.args.prefix.now h.1 c.args.here.now (length c.args.prefix.now) c.settled_b.result.now h.2 h.3 c.settled_b.ensures refl
