use Rattle.crn_solve.proofs.Prelude.{◌≡◌, ◌∙◌, ℕ, ap, sym, subst, IsTrue, false≢true, Answer, Earlier, Q4, Q11, Q12, IsYes, on, GiveClasses, IsAnswer, tight, yes_tight, if_ok}
use Rattle.std.specs.Prelude.{◌↔◌}
use Rattle.crn_solve.proofs.Theorems.{weak_is, weak_known}
use Rattle.crn_solve.proofs.Regularity.{regular_yes, irregular_given, confluence_rests}
use Rattle.crn_solve.proofs.confluence_answer.confluence_answer.Goals as goal

pub confluence-requires-clause-regular : goal.confluence-requires-clause-regular
confluence-requires-clause-regular c = regular_yes c.args.net.now c.args.regular.now c.requires.regular (c.is_yes.ensures.0 c.if-is_yes.true)

pub confluence-requires-clause-weak : goal.confluence-requires-clause-weak
confluence-requires-clause-weak c = weak_is c.args.net.now c.args.weak.now c.is_yes-then-is_yes.result c.requires.weak c.is_yes-then-is_yes.ensures

pub returns-then-is_yes : goal.returns-then-is_yes
returns-then-is_yes c =
    let net = c.args.net.now in
    let l = c.args.linkage.now in
    let s = c.args.strong.now in
    let is_yes = c.is_yes-then-is_yes.result in
    if_ok (λ (answer : Answer). (budget : ℕ) (earlier : Earlier) → GiveClasses earlier l.label.list l.count s.label.list s.exit.list → IsYes (on earlier Q11) → (IsTrue is_yes ↔ IsYes (on earlier Q4)) → IsAnswer net budget earlier Q12 answer)
    (λ (answer : Answer). (budget : ℕ) (earlier : Earlier) → GiveClasses earlier l.label.list l.count s.label.list s.exit.list → on earlier Q4 ≡ tight c.args.weak.now → on earlier Q11 ≡ tight c.args.regular.now → IsAnswer net budget earlier Q12 answer) c.confluence.result
    (λ answer h budget earlier gives weak is. h budget earlier gives (subst (λ (A : Type 0). A) (sym (yes_tight c.args.regular.now) ∙ ap IsYes (sym is)) (c.is_yes.ensures.0 c.if-is_yes.true))
    (weak_known earlier c.args.weak.now is_yes weak c.is_yes-then-is_yes.ensures)) c.confluence.ensures

pub returns-then-is_open : goal.returns-then-is_open
returns-then-is_open c budget earlier gives weak is =
    let net = c.args.net.now in
    subst (IsAnswer net budget earlier Q12) (sym c.rests_on.ensures) (confluence_rests net budget earlier c.args.regular.now (c.is_open.ensures.0 c.if-is_open.true) is)

pub returns : goal.returns
returns c budget earlier gives weak is =
    let net = c.args.net.now in
    let v = c.args.regular.now in
    subst (IsAnswer net budget earlier Q12) (sym c.plain.ensures) (irregular_given net budget earlier c.args.linkage.now c.args.strong.now c.args.weak.now v c.meets_definition.ensures c.requires.classes c.requires.strong_classes c.requires.weak c.requires.regular
    (λ y. false≢true (sym c.if-is_yes.false ∙ c.is_yes.ensures.1 y)) (λ o. false≢true (sym c.if-is_open.false ∙ c.is_open.ensures.1 o)) is)
