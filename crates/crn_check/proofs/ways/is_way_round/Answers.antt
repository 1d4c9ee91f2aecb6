use Rattle.crn_check.proofs.Prelude.{◌≡◌, ◌<◌, ◌-◌, ◌==◌, false, length, get_or, arith, ne_eqb, goes_at, refused}
use Rattle.crn_check.proofs.Rounds.{round_by, round_first}
use Rattle.crn_check.proofs.ways.is_way_round.Goals as goal

pub returns-then-walk-y : goal.returns-then-walk-y
returns-then-walk-y c =
    let net = c.args.net.now in
    let r = c.args.reaction in
    let y = c.reactant-y.result in
    let z = c.product-z.result in
    let lt : r - 1 < length net.reactions = omega (arith, c.requires.number.0, c.requires.number.1) in
    let goes = goes_at net (r - 1) y z lt c.reactant-y.ensures.value c.product-z.ensures.value in (
      λ t. round_by net (length net.complexes) r y z c.args.walk.now (omega (arith, c.requires.walk.some)) c.requires.walk.each c.requires.number.0 goes c.if-walk-y.true (c.leads_round.ensures.0 t),
      λ h. c.leads_round.ensures.1 (round_first net r y z c.args.walk.now goes h).1,
    )

pub returns-else-walk-y : goal.returns-else-walk-y
returns-else-walk-y c =
    let net = c.args.net.now in
    let r = c.args.reaction in
    let y = c.reactant-y.result in
    let z = c.product-z.result in
    let lt : r - 1 < length net.reactions = omega (arith, c.requires.number.0, c.requires.number.1) in
    let goes = goes_at net (r - 1) y z lt c.reactant-y.ensures.value c.product-z.ensures.value in
    let differ : (get_or c.args.walk.now 0 0 - 1 == y) ≡ false = ne_eqb _ _ c.if-walk-y.false in
    rw differ (refused (λ h. c.if-walk-y.false (round_first net r y z c.args.walk.now goes h).0))
