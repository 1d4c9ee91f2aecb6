use Rattle.crn_sign.proofs.Prelude.{ℕ, [], subst, Signed, EndsAt}
use Rattle.crn_sign.proofs.walk.visit_all.Goals as goal

pub returns-in-Ok : goal.returns-in-Ok
returns-in-Ok g c =
    let w : Signed = g.P.SignProblem.signed c.args.problem.now in
    let after = c.visit_from.new.search.left in
    (after, subst (λ (n : ℕ). EndsAt w [] n after c.args.listing.now c.visit_from.new.listing c.in-Ok.end) c.in_ok-search.ensures.left c.in-Ok.ensures)
