use Rattle.crn_check.proofs.Prelude.{◌≡◌, ◌∙◌, ◌↔◌, sym, subst, arith, false≢true, common_steps, refused}
use Rattle.crn_check.proofs.Rounds.{Leads, leads_more, leads_less, leads_end}
use Rattle.crn_check.proofs.ways.leads_round.Goals as goal

pub loop-k-init : goal.loop-k-init
loop-k-init c = (λ h. h, λ h. h)

pub returns-then-not-is_free_step : goal.returns-then-not-is_free_step
returns-then-not-is_free_step c =
    let walk = c.args.walk.now in
    let m = λ (h : Leads c.args.net.now c.args.y c.args.z walk 1 c.args.y). leads_more c.args.net.now c.args.y c.args.z walk c.loop-k.k c.loop-k.at (omega arith) (c.loop-k.invariant.0 h) in
    refused (λ h. false≢true (sym c.if-not-is_free_step.true ∙ c.is_free_step.ensures.1 (m h).0))

pub loop-k-preserved : goal.loop-k-preserved
loop-k-preserved c =
    let net = c.args.net.now in
    let y = c.args.y in
    let z = c.args.z in
    let walk = c.args.walk.now in
    let k = c.loop-k.k in (
      λ h. (leads_more net y z walk k c.loop-k.at (omega arith) (c.loop-k.invariant.0 h)).1,
      λ h. c.loop-k.invariant.1 (leads_less net y z walk k c.loop-k.at (omega arith) (c.is_free_step.ensures.0 c.if-not-is_free_step.false) h),
    )

pub returns : goal.returns
returns c =
    let net = c.args.net.now in
    let walk = c.args.walk.now in
    let end = leads_end net c.args.y c.args.z walk c.loop-k.k c.loop-k.at (omega arith) in
    let whole : Leads net c.args.y c.args.z walk 1 c.args.y ↔ (c.loop-k.at ≡ c.args.z) = subst (λ (A : Type 0). Leads net c.args.y c.args.z walk 1 c.args.y ↔ A) end c.loop-k.invariant in
    grind (arith, common_steps, whole)
