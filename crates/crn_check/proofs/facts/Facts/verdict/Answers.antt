use Rattle.crn_check.proofs.Prelude.{◌≡◌, List, sym, ap, subst, Fact, KeptFacts, HoldsOn, Earlier}
use Rattle.crn_check.proofs.Kept.{IsAhead, earlier_of, all_ahead, ahead_here, ahead_later}
use Rattle.crn_check.proofs.facts.Facts.verdict.Goals as goal

pub loop-fact-init : goal.loop-fact-init
loop-fact-init c =
    let items = c.self.inside.items.items in
    let is : earlier_of items ≡ c.args.self.now.earlier = ap (λ (k : KeptFacts). k.earlier) c.self.view_is in
    let holds : HoldsOn (earlier_of items) c.args.question = subst (λ (e : Earlier). HoldsOn e c.args.question) (sym is) c.requires in
    subst (λ (e : Earlier). IsAhead c.deref-fact-items.result.now e c.args.question) is
    (subst (λ (fs : List Fact). IsAhead fs (earlier_of items) c.args.question) (sym c.deref-fact-items.ensures.value) (all_ahead items c.args.question c.self.invariant.1 holds))

pub loop-fact-preserved : goal.loop-fact-preserved
loop-fact-preserved c = ahead_later c.deref-fact-items.result.now c.loop-fact.fact-index c.fact-item.result c.args.self.now.earlier c.args.question c.loop-fact.invariant c.loop-fact-test.true c.fact-item.is c.if-fact-question.false

pub returns-then-fact-question : goal.returns-then-fact-question
returns-then-fact-question c = ahead_here c.deref-fact-items.result.now c.loop-fact.fact-index c.fact-item.result c.args.self.now.earlier c.args.question c.loop-fact.invariant c.loop-fact-test.true c.fact-item.is c.if-fact-question.true
