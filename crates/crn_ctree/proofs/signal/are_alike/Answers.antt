use Rattle.crn_ctree.proofs.Prelude.{◌∙◌, refl, sym, arith, false≢true, image, reaction_system, entry, sign_is}
use Rattle.crn_ctree.proofs.PairLaws.{image_long}
use Rattle.crn_ctree.proofs.SignalLaws.{alike_from, alike_at, next_alike}
use Rattle.crn_ctree.proofs.signal.are_alike.Goals as goal

pub returns-then-not-is_same : goal.returns-then-not-is_same
returns-then-not-is_same c =
    let net = c.args.net.now in
    let mu = c.args.mu.now in
    let sums = image (reaction_system net) c.args.weights.now in
    let s = c.loop-s.s in (
      λ t. absurd (false≢true t),
      λ e. absurd (false≢true (sym c.if-not-is_same.true ∙ c.is_same.ensures.1 (sign_is c.sign_at.result (entry mu s) c.sign_at.ensures ∙ alike_at mu sums s (omega (arith, c.requires.mu, c.loop-s-test.true, c.species-s-end.ensures.count)) (c.requires.mu ∙ sym (image_long net c.args.weights.now)) e ∙ sym c.change_sign.ensures))),
    )

pub loop-s-preserved : goal.loop-s-preserved
loop-s-preserved c =
    let net = c.args.net.now in
    let mu = c.args.mu.now in
    let sums = image (reaction_system net) c.args.weights.now in
    let s = c.loop-s.s in
    next_alike mu sums s c.loop-s.invariant (sym (sign_is c.sign_at.result (entry mu s) c.sign_at.ensures) ∙ c.is_same.ensures.0 c.if-not-is_same.false ∙ c.change_sign.ensures)

pub returns : goal.returns
returns c =
    let net = c.args.net.now in
    let sums = image (reaction_system net) c.args.weights.now in (
      λ t. alike_from c.args.mu.now sums (c.requires.mu ∙ sym (image_long net c.args.weights.now)) (λ j lt. c.loop-s.invariant j (omega (arith, lt, c.requires.mu, c.loop-s-test.false, c.loop-s.auto.s-end, c.species-s-end.ensures.count))),
      λ e. refl,
    )
