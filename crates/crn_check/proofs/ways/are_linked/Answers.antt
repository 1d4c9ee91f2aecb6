use Rattle.crn_check.proofs.Prelude.{◌≡◌, ◌<◌, length, sym, ◌∙◌, arith, false≢true, IsBetween, refused, goes_at}
use Rattle.crn_check.proofs.Counted.{one_more}
use Rattle.crn_check.proofs.Decided.{granted}
use Rattle.crn_check.proofs.Rounds.{linked_by, links_by}
use Rattle.crn_check.proofs.ways.are_linked.Goals as goal

pub returns-then-is_between : goal.returns-then-is_between
returns-then-is_between c =
    let net = c.args.net.now in
    let y = c.reactant.result in
    let z = c.product.result in
    let lt : c.loop-r.r < length net.reactions = omega (arith, c.loop-r-test.true, c.reactions-r-end.ensures.count) in
    let goes = goes_at net c.loop-r.r y z lt c.reactant.ensures.value c.product.ensures.value in
    granted (linked_by net c.loop-r.r y z c.args.a c.args.b goes (c.is_between.ensures.0 c.if-is_between.true))

pub loop-r-preserved : goal.loop-r-preserved
loop-r-preserved c =
    let net = c.args.net.now in
    let y = c.reactant.result in
    let z = c.product.result in
    let lt : c.loop-r.r < length net.reactions = omega (arith, c.loop-r-test.true, c.reactions-r-end.ensures.count) in
    let goes = goes_at net c.loop-r.r y z lt c.reactant.ensures.value c.product.ensures.value in
    one_more net (λ y z. IsBetween y z c.args.a c.args.b → ⊥) c.loop-r.r y z c.loop-r.invariant goes (λ h. false≢true (sym c.if-is_between.false ∙ c.is_between.ensures.1 h))

pub returns : goal.returns
returns c =
    let net = c.args.net.now in
    let all : c.loop-r.r ≡ length net.reactions = omega (arith, c.reactions-r-end.ensures.count) in
    refused (λ linked. let f = links_by net c.args.a c.args.b linked in c.loop-r.invariant f.0 f.1 f.2 (omega (arith, f.3.0, all)) f.3 f.4)
