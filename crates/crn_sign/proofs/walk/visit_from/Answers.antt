use Rattle.crn_sign.proofs.Prelude.{List, subst, Sign, Signed, EndsAt, MatchResult, IsSearchStop}
use Rattle.crn_sign.proofs.walk.visit_from.Goals as goal

pub returns : goal.returns
returns g c =
    let w : Signed = g.P.SignProblem.signed c.args.problem.now in
    subst (λ (p : List Sign). MatchResult c.walk-end.result (λ e. EndsAt w p c.args.search.now.left c.walk-end.new.search.left c.args.listing.now c.walk-end.new.listing e) (λ s. IsSearchStop w s)) c.requires.prefix c.walk-end.ensures.answer
