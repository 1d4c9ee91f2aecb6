use Rattle.crn_ctree.proofs.Prelude.{length, ap, subst, arith, Fits, said_by, KeptTree, problem_of, Node}
use Rattle.crn_ctree.proofs.check.TreeCheck.node.Goals as goal

-- the choices of the problem that the check keeps
pub open-requires-clause-room : goal.open-requires-clause-room
open-requires-clause-room c =
    let net = c.args.net.now in
    let f = subst (λ (node : Node). Fits (problem_of net c.self.inside.problem) c.prefix.result.now (said_by node)) c.in-Split-node.is (c.fits.ensures.0 c.if-not-fits.false) in
    let kept = ap (λ (k : KeptTree). (problem_of net k.problem).choices) c.self.view_is in
    omega (arith, f, kept, ap length c.prefix.ensures.first, c.requires.choices, ap (λ (k : KeptTree). k.choices) c.self.view_is)
