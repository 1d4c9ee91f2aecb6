use Rattle.crn_endo_check.proofs.Prelude.{◌≡◌, ◌<◌, ◌-◌, length, ap, subst, ◌∙◌, arith, KeptSlopes}
use Rattle.crn_endo_check.proofs.WeakCoordinates.{either_at, never_at}
use Rattle.crn_endo_check.proofs.slopes.Slopes.is_weak.Goals as goal

pub returns-then-row-reactions-clause-firm : goal.returns-then-row-reactions-clause-firm
returns-then-row-reactions-clause-firm c =
    let s = c.args.self.now in
    let k = c.args.coordinate in
    let species : c.species-species.result ≡ length s.net.names = c.species-species.ensures.count ∙ ap (λ (u : KeptSlopes). length u.net.names) c.self.view_is in
    let reactions : c.reactions-reactions.result ≡ length s.net.reactions = c.reactions-reactions.ensures.count ∙ ap (λ (u : KeptSlopes). length u.net.reactions) c.self.view_is in
    let inside : s.reaction < length s.net.reactions = subst (λ (u : KeptSlopes). u.reaction < length u.net.reactions) c.self.view_is c.self.invariant.0 in
    λ no. never_at s.net s.reaction k inside (λ le lt ne. omega (arith, species, reactions, c.if-row-reactions.true, lt))

pub returns-then-row-self-clause-firm : goal.returns-then-row-self-clause-firm
returns-then-row-self-clause-firm c =
    let s = c.args.self.now in
    let k = c.args.coordinate in
    let species : c.species-species.result ≡ length s.net.names = c.species-species.ensures.count ∙ ap (λ (u : KeptSlopes). length u.net.names) c.self.view_is in
    let own : c.self.inside.reaction ≡ s.reaction = ap (λ (u : KeptSlopes). u.reaction) c.self.view_is in
    let inside : s.reaction < length s.net.reactions = subst (λ (u : KeptSlopes). u.reaction < length u.net.reactions) c.self.view_is c.self.invariant.0 in
    λ no. never_at s.net s.reaction k inside (λ le lt ne. ne (omega (arith, species, own, c.if-row-self.true)))

pub returns-clause-weak : goal.returns-clause-weak
returns-clause-weak c =
    let s = c.args.self.now in
    let k = c.args.coordinate in
    let species : c.species-species.result ≡ length s.net.names = c.species-species.ensures.count ∙ ap (λ (u : KeptSlopes). length u.net.names) c.self.view_is in
    let reactions : c.reactions-reactions.result ≡ length s.net.reactions = c.reactions-reactions.ensures.count ∙ ap (λ (u : KeptSlopes). length u.net.reactions) c.self.view_is in
    let own : c.self.inside.reaction ≡ s.reaction = ap (λ (u : KeptSlopes). u.reaction) c.self.view_is in
    λ yes. either_at s.net s.reaction k (omega (arith, species, c.if-coordinate-species.false)) (omega (arith, species, reactions, c.if-row-reactions.false))
    (λ e. absurd (omega (arith, species, own, c.if-row-self.false, e)))
