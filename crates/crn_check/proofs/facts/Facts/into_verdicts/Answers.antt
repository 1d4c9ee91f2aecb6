use Rattle.crn_check.proofs.Prelude.{◌∙◌, ap, sym, rules, KeptFacts}
use Rattle.crn_check.proofs.Kept.{none_given, all_given}
use Rattle.crn_check.proofs.facts.Facts.into_verdicts.Goals as goal

pub loop-fact-init : goal.loop-fact-init
loop-fact-init c =
    none_given c.self.inside.given c.self.inside.items.items c.into_iter-fact-iterator.result.rest.items c.args.self.earlier c.self.invariant.4 (search rules) (ap (λ (k : KeptFacts). k.earlier) c.self.view_is) c.self.invariant.1

pub returns : goal.returns
returns c =
    let none = rw c.in-None.is at c.next.ensures.steps in
    all_given c.loop-fact.verdicts c.loop-fact.yielded c.loop-fact.fact-iterator.rest.items c.args.self.earlier c.loop-fact.invariant.0 c.loop-fact.invariant.1 (sym c.loop-fact.fact-iterator.rest.ok.0 ∙ none.0)
